-- What is counted over a trace.
use Rattle.std.specs.Prelude.{ℕ, ◌+◌, Bool, if◌then◌else◌, List, length, count_by, sum_by, Option, Some, None, is_some}
use Rattle.class_table.specs.Tables.{loss_of_size}
use Rattle.trace_event.specs.declared.event.{Event.{Event}, Event.TheVariants.{Malloc, Calloc, Realloc}}
use Rattle.replay_theory.specs.Replay.{Answer, is_large, is_no_class, is_exhausted, is_tag_fault, is_unmapped, is_refused, is_silent}

pub record Totals : Type 0 where
  pub events : ℕ
  pub requests : ℕ
  pub null_large : ℕ
  pub null_no_class : ℕ
  pub null_exhausted : ℕ
  pub faults_tag : ℕ
  pub faults_unmapped : ℕ
  pub refused_frees : ℕ
  pub loss : ℕ

abbrev pub no_totals : Totals
no_totals = record {
  events = 0;
  requests = 0;
  null_large = 0;
  null_no_class = 0;
  null_exhausted = 0;
  faults_tag = 0;
  faults_unmapped = 0;
  refused_frees = 0;
  loss = 0;
}

-- ---- what an event and its result count as

abbrev pub request_size : Event → Option ℕ
request_size (Malloc v n) = Some n
request_size (Calloc v n) = Some n
request_size (Realloc v n) = Some n
request_size other = None

abbrev pub is_request : Event → Bool
is_request event = is_some (request_size event)

-- the bytes lost by rounding a request of this size, if there is one, up to its class
abbrev pub loss_of_request : List ℕ → Option ℕ → ℕ
loss_of_request classes None = 0
loss_of_request classes (Some n) = loss_of_size classes n

-- a request is silent exactly where it was not refused; other events lose nothing
abbrev pub loss_of_event : List ℕ → Event × Answer → ℕ
loss_of_event classes p = if is_silent p.1 then loss_of_request classes (request_size p.0) else 0

-- ---- counts and sums

-- Over the events and their results.
unfoldable pub totals_of : List ℕ → List (Event × Answer) → Totals
totals_of classes happened = record {
  events = length happened;
  requests = count_by (λ p. is_request p.0) happened;
  null_large = count_by (λ p. is_large p.1) happened;
  null_no_class = count_by (λ p. is_no_class p.1) happened;
  null_exhausted = count_by (λ p. is_exhausted p.1) happened;
  faults_tag = count_by (λ p. is_tag_fault p.1) happened;
  faults_unmapped = count_by (λ p. is_unmapped p.1) happened;
  refused_frees = count_by (λ p. is_refused p.1) happened;
  loss = sum_by (loss_of_event classes) happened;
}

abbrev pub one_if : Bool → ℕ
one_if b = if b then 1 else 0

-- The result of one more event is counted,
abbrev pub with_answer : Totals → Answer → Totals
with_answer t answer = record t {
  null_large = t.null_large + one_if (is_large answer);
  null_no_class = t.null_no_class + one_if (is_no_class answer);
  null_exhausted = t.null_exhausted + one_if (is_exhausted answer);
  faults_tag = t.faults_tag + one_if (is_tag_fault answer);
  faults_unmapped = t.faults_unmapped + one_if (is_unmapped answer);
  refused_frees = t.refused_frees + one_if (is_refused answer);
}

-- its request of this size, if it is one, and what is lost on it,
abbrev pub with_request : List ℕ → Totals → Option ℕ → Answer → Totals
with_request classes t size answer = record t {
  requests = t.requests + one_if (is_some size);
  loss = t.loss + (if is_silent answer then loss_of_request classes size else 0);
}

-- and the event itself.
unfoldable pub totals_after : List ℕ → Totals → Event × Answer → Totals
totals_after classes t p =
    let counted = with_request classes (with_answer t p.1) (request_size p.0) p.1 in
    record counted { events = counted.events + 1 }

-- What a run loses by rounding requests up to their classes, against what its trace requests.
use Rattle.std.specs.Prelude.{◌≡◌, ℕ, ◌≤◌, ◌&&◌, List, count_by, filter_map}
use Rattle.class_table.specs.{Sizes.{counted_of}, Tables.{ServesSizes, rounding_loss}}
use Rattle.trace_event.specs.declared.event.Event.{Event}
use Rattle.replay_theory.specs.{Replay.{Answer, is_refused}, Totals.{request_size, is_request, totals_of}}

-- ---- what a trace requests

-- The sizes that the events request, in bytes.
abbrev pub requested_sizes : List Event → List ℕ
requested_sizes events = filter_map request_size events

-- Those of the requested sizes that a class may serve.
abbrev pub counted_sizes : List Event → List ℕ
counted_sizes events = counted_of (requested_sizes events)

-- Each counted request has a class.
abbrev pub ServesEach : List ℕ → List Event → Type 0
ServesEach classes events = ServesSizes classes (counted_sizes events)

-- ---- what its run loses

-- How many reallocs were refused for their pointer.
abbrev pub refused_reallocs : List (Event × Answer) → ℕ
refused_reallocs happened = count_by (λ p. is_request p.0 && is_refused p.1) happened

-- No request is refused because it has no class. The bytes lost are at most those that rounding loses over the counted
-- requests, and exactly those where no request was exhausted and no realloc was refused for its pointer.
pub record LosesAtMostItsWaste (classes : List ℕ) (events : List Event) (happened : List (Event × Answer)) : Type 0 where
  pub no_class : (totals_of classes happened).null_no_class ≡ 0
  pub loss : (totals_of classes happened).loss ≤ rounding_loss classes (counted_sizes events)
  pub all_loss : (totals_of classes happened).null_exhausted ≡ 0 → refused_reallocs happened ≡ 0 →
      (totals_of classes happened).loss ≡ rounding_loss classes (counted_sizes events)

-- What each event of a served run loses, and so what the run does.
use Rattle.std.proofs.Common.{◌≡◌, ℕ, ◌+◌, ◌<◌, ◌≤◌, Bool, true, false, cond, List, [], ◌∷◌, refl, ap, ◌∙◌, subst, arith, Result, Ok, Err}
use Rattle.std.{proofs.Common.{Option, Some, None, ◌&&◌, nat_le, is_some, zip, count_by, IsSome}}
use Rattle.std.proofs.lemmas.{Bool.{true≢false, leb-false}, List.Elements.{recursion_from_All}}
use Rattle.std.{proofs.lemmas.List.Sums.{sum_by-cons}, specs.List.{AllByRecursion as ByRecursion, cons_option}}
use Rattle.class_table.specs.{Layout.{Partition}, Sizes.{counted_of, largest_counted}, Tables.{class_for, loss_of_size, rounding_loss}}
use Rattle.trace_event.specs.declared.event.{Event.{Event}, Event.TheVariants.{Malloc, Calloc, Realloc, Free}}
use Rattle.heap_theory.specs.Calls.{malloc_step, calloc_step, free_step}
use Rattle.heap_theory.specs.{Calls.{realloc_step}, State.{Heap, first_heap}}
use Rattle.heap_theory.specs.Lookups.{class_for_request, slot_for_request}
use Rattle.heap_theory.specs.declared.refusal.{FreeError.{FreeError}, NullCause.{NullCause}}
use Rattle.heap_theory.specs.declared.refusal.NullCause.TheVariants.{Large, NoClass, Exhausted}
use Rattle.replay_theory.{proofs.LayoutStays.{layout_after}, specs.Losses.{requested_sizes, counted_sizes, LosesAtMostItsWaste, ServesEach}}
use Rattle.replay_theory.specs.Replay.{Replay, Answer, is_no_class, is_exhausted, is_refused, is_silent, answer_of, answers}
use Rattle.replay_theory.specs.Replay.{replay_after, first_replay}
use Rattle.replay_theory.specs.Replay.Answer.{NotFreed}
use Rattle.replay_theory.specs.Totals.{one_if, request_size, loss_of_request, loss_of_event, totals_of}

-- ---- one event

-- what rounding loses over the request of an event, if it has one that is counted
abbrev counted_loss : List ℕ → Option ℕ → ℕ
counted_loss classes None = 0
counted_loss classes (Some n) = cond (nat_le n largest_counted) (loss_of_size classes n) 0

-- what the totals count of an event, by what it requests and answers
record LosesAtMost (classes : List ℕ) (request : Option ℕ) (answer : Answer) : Type 0 where
  no_class : is_no_class answer ≡ false
  loss : cond (is_silent answer) (loss_of_request classes request) 0 ≤ counted_loss classes request
  all_loss : is_exhausted answer ≡ false → (is_some request && is_refused answer) ≡ false →
      cond (is_silent answer) (loss_of_request classes request) 0 ≡ counted_loss classes request

-- a request of n bytes, which the heap answered so
abbrev RequestLoses : Heap → ℕ → Answer → Type 0
RequestLoses h n answer = LosesAtMost h.layout.classes (Some n) answer

module _ (h : Heap) (n : ℕ) where
  refused : (error : FreeError) → RequestLoses h n (NotFreed error)
  refused error = record { no_class = refl; loss = omega arith; all_loss = λ full refused. absurd (true≢false refused) }

-- ---- requests

-- what a request may meet that has a class where it is counted, first as a class and then as a slot
abbrev MayMeet : ℕ → Result ℕ NullCause → Type 0
MayMeet n (Ok s) = n ≤ largest_counted
MayMeet n (Err Large) = largest_counted < n
MayMeet n (Err NoClass) = ⊥
MayMeet n (Err Exhausted) = Unit {0}

-- ---- every event

-- a request has a class where it is counted
abbrev IsServed : List ℕ → Option ℕ → Type 0
IsServed classes None = Unit {0}
IsServed classes (Some n) = n ≤ largest_counted → IsSome (class_for classes n)

class_of_request : (h : Heap) (n : ℕ) → IsServed h.layout.classes (Some n) → MayMeet n (class_for_request h n)
class_of_request h n has = grind arith

slot_of_request : (h : Heap) (n : ℕ) → IsServed h.layout.classes (Some n) → MayMeet n (slot_for_request h n)
unfolding slot_for_request
slot_of_request h n has = grind arith

event_loses : (r : Replay) (e : Event) → IsServed r.heap.layout.classes (request_size e) →
    LosesAtMost r.heap.layout.classes (request_size e) (answer_of r e)
unfolding answer_of malloc_step calloc_step realloc_step free_step
event_loses r (Malloc v n) has = grind (arith, slot_of_request)
event_loses r (Calloc v n) has = grind (arith, slot_of_request)
event_loses r (Realloc v n) has = grind (arith, slot_of_request, class_of_request)
event_loses r (Free v) has = grind arith
event_loses r other has = grind arith

-- ---- every run

-- each of some sizes has a class
abbrev EachServed : List ℕ → List ℕ → Type 0
EachServed classes sizes = ByRecursion (λ n. IsSome (class_for classes n)) sizes

module _ (classes : List ℕ) where
  loss_of_one_more : (request : Option ℕ) (sizes : List ℕ) →
      rounding_loss classes (counted_of (cons_option request sizes)) ≡ counted_loss classes request + rounding_loss classes (counted_of sizes)
  loss_of_one_more None sizes = omega arith
  loss_of_one_more (Some n) sizes = passed (nat_le n largest_counted)
    where
      passed : (b : Bool) →
          rounding_loss classes (cond b (n ∷ counted_of sizes) (counted_of sizes))
          ≡ cond b (loss_of_size classes n) 0 + rounding_loss classes (counted_of sizes)
      passed true = sum_by-cons (loss_of_size classes) n (counted_of sizes)
      passed false = omega arith

  one_more_served : (request : Option ℕ) (sizes : List ℕ) → EachServed classes (counted_of (cons_option request sizes)) →
      IsServed classes request × EachServed classes (counted_of sizes)
  one_more_served request sizes each = grind (arith, leb-false)

one_event_more : (classes : List ℕ) (e : Event) (a : Answer) (events : List Event) (happened : List (Event × Answer)) →
    LosesAtMost classes (request_size e) a → LosesAtMostItsWaste classes events happened →
    LosesAtMostItsWaste classes (e ∷ events) ((e, a) ∷ happened)
unfolding totals_of
one_event_more classes e a events happened first rest =
    let waste : rounding_loss classes (counted_sizes (e ∷ events))
    ≡ counted_loss classes (request_size e) + rounding_loss classes (counted_sizes events) =
    loss_of_one_more classes (request_size e) (requested_sizes events) in
    let lost : (totals_of classes ((e, a) ∷ happened)).loss ≡ loss_of_event classes (e, a) + (totals_of classes happened).loss =
    sum_by-cons (loss_of_event classes) (e, a) happened in
    let count : (p : Event × Answer → Bool) → count_by p ((e, a) ∷ happened) ≡ one_if (p (e, a)) + count_by p happened =
    λ p. sum_by-cons (λ x. one_if (p x)) (e, a) happened in
    grind arith

LosesAtMostItsWaste-from : (r : Replay) (classes : List ℕ) (events : List Event) → r.heap.layout.classes ≡ classes →
    EachServed classes (counted_sizes events) → LosesAtMostItsWaste classes events (zip events (answers r events))
unfolding totals_of answers replay_after
LosesAtMostItsWaste-from r classes [] is each = record { no_class = refl; loss = omega arith; all_loss = λ full refused. refl }
LosesAtMostItsWaste-from r classes (e ∷ events) is each =
    let served = one_more_served classes (request_size e) (requested_sizes events) each in
    let first = subst (λ c. IsServed c (request_size e) → LosesAtMost c (request_size e) (answer_of r e)) is (event_loses r e) served.0 in
    one_event_more classes e (answer_of r e) events (zip events (answers (replay_after r e) events)) first
    (LosesAtMostItsWaste-from (replay_after r e) classes events (ap (λ p. p.classes) (layout_after r e) ∙ is) served.1)

pub LosesAtMostItsWaste-run : (layout : Partition) (seed quarantine : ℕ) (events : List Event) → ServesEach layout.classes events →
    LosesAtMostItsWaste layout.classes events (zip events (answers (first_replay layout seed quarantine) events))
unfolding first_replay first_heap
LosesAtMostItsWaste-run layout seed quarantine events each = grind (arith, LosesAtMostItsWaste-from, recursion_from_All)

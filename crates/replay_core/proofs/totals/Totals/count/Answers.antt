use Rattle.std.proofs.Common.{◌≡◌, [], List, ℕ, ap, arith, refl, suc, ◌+◌, ◌*◌, ◌^◌, ◌<◌, ◌≤◌, Bool, true, false, cond, ◌∷◌}
use Rattle.std.{proofs.Common.{Option, Some, All}, specs.Option.{option_map_or}}
use Rattle.replay_theory.specs.Replay.{Answer}
use Rattle.replay_theory.specs.Totals.{loss_of_event, one_if, totals_after, with_answer, Totals, request_size, with_request, is_request}
use Rattle.replay_core.{proofs.totals.Totals.count.Goals.{After-count_request}, specs.TheoryValues.{shown, totals_in}}
use Rattle.replay_core.specs.TotalsBounds.{AreBounded}
use Rattle.class_table.specs.{Sizes.{largest_counted, loss_of, serves}, Tables.{IsLegalTable, class_for, loss_of_size}}
use Rattle.trace_event.specs.declared.event.Event.{Event}
use Rattle.replay_core.proofs.totals.Totals.count.Goals as goal

-- What is lost on a request, and how large totals become.
loss_of_size-le : (classes : List ℕ) (n : ℕ) → All (λ class. (2 ≤ class) × (class ≤ 1024)) classes → loss_of_size classes n ≤ largest_counted
loss_of_size-le [] n legal = omega arith
loss_of_size-le (class ∷ classes) n legal =
    elim (serves n class) as (λ b. option_map_or (loss_of n) (cond b (Some class) (class_for classes n)) 0 ≤ largest_counted) [
      | true ↦ omega (arith, (legal 0 0 (omega arith)).1)
      | false ↦ loss_of_size-le classes n (λ i d within. legal (suc i) d (omega arith))
    ]

one_if-le : (b : Bool) → one_if b ≤ 1
one_if-le b = grind arith

loss_of_event-le : (classes : List ℕ) (p : Event × Answer) → IsLegalTable 1 classes →
    loss_of_event classes p ≤ largest_counted * one_if (is_request p.0)
loss_of_event-le classes p legal = grind (arith, loss_of_size-le)

AreBounded-after : (classes : List ℕ) (t : Totals) (p : Event × Answer) → IsLegalTable 1 classes → AreBounded t → t.events < 2 ^ 40 →
    AreBounded (totals_after classes t p)
unfolding totals_after
AreBounded-after classes t p legal b few = grind (arith, one_if-le, loss_of_event-le)

-- one event more, counted in parts
counted_in_parts : (classes : List ℕ) (t answered requested : Totals) (size : Option ℕ) (event : Event) (answer : Answer) →
    answered ≡ with_answer t answer → size ≡ request_size event →
    requested ≡ with_request classes answered size answer →
    record requested { events = requested.events + 1 } ≡ totals_after classes t (event, answer)
unfolding totals_after
counted_in_parts classes t answered requested size event answer first is second = grind arith

pub count_request-requires-clause-few : goal.count_request-requires-clause-few
count_request-requires-clause-few c =
    omega (arith, ap (λ (t : Totals). t.requests) (c.count_answer.ensures []), c.requires.bounded.requests)

pub count_request-requires-clause-small : goal.count_request-requires-clause-small
count_request-requires-clause-small c =
    omega (arith, ap (λ (t : Totals). t.loss) (c.count_answer.ensures []), c.requires.bounded.requests, c.requires.bounded.loss)

-- the request of the event is counted
module _ (c : After-count_request) where
  abbrev classes : List ℕ
  classes = c.args._heap.now.state.layout.classes

  requested : (bytes : List ℕ) → totals_in c.count_request.new.self
      ≡ with_request classes (totals_in c.count_answer.new.self) (request_size c.args._event.now) (shown bytes c.args.answer.now)
  requested bytes = c.count_request.ensures bytes classes (request_size c.args._event.now) c.requires.tells

pub overflow_add-self : goal.overflow_add-self
overflow_add-self c =
    omega (
      arith,
      ap (λ (t : Totals). t.events) (requested (goal.at.overflow_add-self c).After-count_request []),
      ap (λ (t : Totals). t.events) (c.count_answer.ensures []),
    )

pub returns-clause-counted : goal.returns-clause-counted
returns-clause-counted c bytes = grind (arith, counted_in_parts)

pub returns-clause-bounded : goal.returns-clause-bounded
returns-clause-bounded c =
    let at = (goal.at.returns-clause-bounded c).After-count_request in
    let counted =
    counted_in_parts (classes at) (totals_in c.args.self.now) (totals_in c.count_answer.new.self)
    (totals_in c.count_request.new.self) (request_size c.args._event.now) c.args._event.now (shown [] c.args.answer.now)
    (c.count_answer.ensures []) refl (requested at []) in
    grind (arith, AreBounded-after)

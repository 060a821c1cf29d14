use Rattle.std.proofs.Common.{◌≡◌, ◌⊎◌, ℕ, List, [], ◌+◌, ◌++◌, length, take, sym, ap, ◌∙◌, subst, arith, append-nil}
use Rattle.std.{proofs.lemmas.List.{with_items_is}, specs.Vec.{with_items}}
use Rattle.replay_core.proofs.Reached.{null_or_tagged, sound_heap, IsStored-after, stored_in_parts, run_goes_on}
use Rattle.replay_core.{proofs.replay.Replay.step_at.Goals.{After-perform-answer}, specs.ReplayFields.{stored, IsKept}}
use Rattle.replay_core.specs.{ReplayState.{Stored, IsStored, stored_after}, TotalsBounds.{AreBounded}, declared.answer.Answer.{Answer}}
use Rattle.replay_core.specs.TheoryValues.{AreVariables, TellsRequest, over, shown, totals_in}
use Rattle.replay_core.specs.declared.{answer.Answer.TheVariants.{Silent, Served, Loaded}, totals.Totals.{Totals as TheTotals}}
use Rattle.class_table.specs.{Layout.{Partition}, Tables.{IsLegalTable}}
use Rattle.replay_theory.{proofs.LayoutStays.{layout_after}, specs.Replay.{Replay, heap_after, replay_after, variables_after, answer_of}}
use Rattle.replay_theory.specs.{Report.{report_line}, Totals.{Totals, request_size, totals_after}}
use Rattle.trace_event.specs.declared.event.Event.{Event}
use Rattle.heap_theory.specs.State.{Heap}
use Rattle.replay_core.proofs.replay.Replay.step_at.Goals as goal

pub perform-answer-requires-clause-sound : goal.perform-answer-requires-clause-sound
perform-answer-requires-clause-sound c = sound_heap (stored c.self.inside) c.self.invariant.reached

pub perform-answer-requires-clause-variables : goal.perform-answer-requires-clause-variables
perform-answer-requires-clause-variables c =
    subst AreVariables (sym c.deref_mut.ensures.value)
    (record { long = c.self.invariant.long; tagged = null_or_tagged (stored c.self.inside) c.self.invariant.reached })

-- no event changes the classes
classes_stay : (replay : Replay) (event : Event) (after : Heap) → after ≡ heap_after replay event →
    after.layout.classes ≡ replay.heap.layout.classes
classes_stay replay event after is = ap (λ (h : Heap). h.layout.classes) is ∙ ap (λ (l : Partition). l.classes) (layout_after replay event)

-- ---- the parts, after the event

module _ (c : After-perform-answer) where
  heap_is : c.perform-answer.new.heap.state ≡ heap_after (stored c.self.inside).replay c.args.event.now
  unfolding replay_after
  heap_is = grind arith

  classes_are : c.perform-answer.new.heap.state.layout.classes ≡ c.self.inside.heap.state.layout.classes
  classes_are = classes_stay (stored c.self.inside).replay c.args.event.now c.perform-answer.new.heap.state heap_is

  legal : IsLegalTable 1 c.perform-answer.new.heap.state.layout.classes
  legal = subst (IsLegalTable 1) (sym classes_are) c.self.invariant.legal

  tells : TellsRequest c.perform-answer.new.heap.state.layout.classes (request_size c.args.event.now) c.perform-answer.result
  tells = grind (arith, classes_are)

  variables_are : c.perform-answer.new.variables ≡ variables_after (stored c.self.inside).replay c.args.event.now
  unfolding replay_after
  variables_are = grind arith

  items_are : (with_items c.self.inside.variables c.perform-answer.new.variables).items ≡ c.perform-answer.new.variables
  items_are = grind (arith, with_items_is)

  -- the totals that count the event
  abbrev Counts : TheTotals → Type 0
  Counts totals = totals_in totals
      ≡ totals_after c.perform-answer.new.heap.state.layout.classes (stored c.self.inside).totals
      (c.args.event.now, shown c.perform-answer.new.bytes c.perform-answer.result)

  -- they are, where the answer is known
  counts_by : (answer : Answer) → c.perform-answer.result ≡ answer → (totals : TheTotals) → ((bytes : List ℕ) →
      totals_in totals
      ≡ totals_after c.perform-answer.new.heap.state.layout.classes (stored c.self.inside).totals (c.args.event.now, shown bytes answer))
      → Counts totals
  counts_by answer is totals counted = grind arith

  stored_is : (totals : TheTotals) → Counts totals → record {
    replay = over c.perform-answer.new.heap.state
        (with_items c.self.inside.variables c.perform-answer.new.variables).items;
    totals = totals_in totals;
  }
      ≡ stored_after (stored c.self.inside) c.args.event.now
  stored_is totals counted = grind (arith, stored_in_parts, heap_is, items_are, variables_are, classes_are)

  events_are : (totals : TheTotals) → Counts totals → totals.events ≡ c.self.inside.totals.events + 1
  unfolding totals_after
  events_are totals counted = ap (λ (t : Totals). t.events) counted

  line_is : report_line (c.self.inside.totals.events + 1) (shown c.perform-answer.new.bytes c.perform-answer.result)
      ≡ report_line (c.args.self.now.totals.events + 1) (answer_of c.args.self.now.replay c.args.event.now)
  line_is = grind arith

  kept : (totals : TheTotals) → Counts totals → AreBounded (totals_in totals) → IsKept (record c.self.inside {
    heap = c.perform-answer.new.heap;
    variables = with_items c.self.inside.variables c.perform-answer.new.variables;
    totals = totals;
    loaded = c.perform-answer.new.bytes;
  })
  kept totals counted bounded = record {
    reached = subst IsStored (sym (stored_is totals counted)) (IsStored-after (stored c.self.inside) c.args.event.now c.self.invariant.reached);
    bounded = bounded;
    long = ap length items_are ∙ c.perform-answer.auto.variables ∙ ap length c.deref_mut.ensures.value ∙ c.self.invariant.long;
    legal = legal;
    few = omega (arith, c.perform-answer.ensures.frees, c.self.invariant.few, events_are totals counted);
  }

-- ---- an event that has no line

no_line : (number : ℕ) (bytes : List ℕ) (answer : Answer) → (answer ≡ Silent) ⊎ ((loss : ℕ) × (answer ≡ Served loss)) →
    report_line number (shown bytes answer) ≡ []
unfolding report_line
no_line number bytes answer h3 = grind arith

pub count-requires-clause-legal : goal.count-requires-clause-legal
count-requires-clause-legal c = legal (goal.at.count-requires-clause-legal c).After-perform-answer

pub count-requires-clause-tells : goal.count-requires-clause-tells
count-requires-clause-tells c = tells (goal.at.count-requires-clause-tells c).After-perform-answer

pub returns-in-Silent-clause-line : goal.returns-in-Silent-clause-line
returns-in-Silent-clause-line c = grind (arith, append-nil, no_line)

pub returns-in-Silent-clause-stored : goal.returns-in-Silent-clause-stored
returns-in-Silent-clause-stored c =
    stored_is (goal.at.returns-in-Silent-clause-stored c).After-perform-answer c.count.new.self (c.count.ensures.counted c.perform-answer.new.bytes)
    ∙ ap (λ (s : Stored). stored_after s c.args.event.now) c.self.view_is

pub returns-in-Silent-clause-run : goal.returns-in-Silent-clause-run
returns-in-Silent-clause-run c run same = grind (arith, run_goes_on, returns-in-Silent-clause-stored)

pub invariant_of-self : goal.invariant_of-self
invariant_of-self c =
    kept (goal.at.invariant_of-self c).After-perform-answer c.count.new.self (c.count.ensures.counted c.perform-answer.new.bytes) c.count.ensures.bounded

-- ---- a load that succeeds

pub count-requires-in-Loaded-clause-legal : goal.count-requires-in-Loaded-clause-legal
count-requires-in-Loaded-clause-legal c = legal (goal.at.count-requires-in-Loaded-clause-legal c).After-perform-answer

pub count-requires-in-Loaded-clause-tells : goal.count-requires-in-Loaded-clause-tells
count-requires-in-Loaded-clause-tells c = grind arith

pub returns-in-Loaded-clause-line : goal.returns-in-Loaded-clause-line
returns-in-Loaded-clause-line c =
    let at = (goal.at.returns-in-Loaded-clause-line c).After-perform-answer in
    let counts = counts_by at _ c.in-Loaded.is c.count-in-Loaded.new.self c.count-in-Loaded.ensures.counted in
    c.write_data.ensures.text ∙ ap (λ line. take c.args.at c.args.text.now ++ line)
    (ap (λ len. report_line c.count-in-Loaded.new.self.events (shown c.perform-answer.new.bytes (Loaded len))) c.from.ensures
    ∙ ap (λ n. report_line n (shown c.perform-answer.new.bytes (Loaded c.in-Loaded.len))) (events_are at c.count-in-Loaded.new.self counts)
    ∙ ap (λ a. report_line (c.self.inside.totals.events + 1) (shown c.perform-answer.new.bytes a)) (sym c.in-Loaded.is)
    ∙ line_is at)

pub returns-in-Loaded-clause-stored : goal.returns-in-Loaded-clause-stored
returns-in-Loaded-clause-stored c =
    let at = (goal.at.returns-in-Loaded-clause-stored c).After-perform-answer in
    stored_is at _ (counts_by at _ c.in-Loaded.is c.count-in-Loaded.new.self c.count-in-Loaded.ensures.counted)
    ∙ ap (λ (s : Stored). stored_after s c.args.event.now) c.self.view_is

pub returns-in-Loaded-clause-run : goal.returns-in-Loaded-clause-run
returns-in-Loaded-clause-run c run same = grind (arith, run_goes_on, returns-in-Loaded-clause-stored)

pub invariant_of-self-in-Loaded : goal.invariant_of-self-in-Loaded
invariant_of-self-in-Loaded c =
    let at = (goal.at.invariant_of-self-in-Loaded c).After-perform-answer in
    let counts = counts_by at _ c.in-Loaded.is c.count-in-Loaded.new.self c.count-in-Loaded.ensures.counted in
    let k = kept at _ counts c.count-in-Loaded.ensures.bounded in
    record { reached = k.reached; bounded = k.bounded; long = k.long; legal = k.legal; few = k.few }

-- ---- an event that may have one

pub count-requires-2-clause-legal : goal.count-requires-2-clause-legal
count-requires-2-clause-legal c = legal (goal.at.count-requires-2-clause-legal c).After-perform-answer

pub count-requires-2-clause-tells : goal.count-requires-2-clause-tells
count-requires-2-clause-tells c = tells (goal.at.count-requires-2-clause-tells c).After-perform-answer

pub returns-clause-stored : goal.returns-clause-stored
returns-clause-stored c =
    stored_is (goal.at.returns-clause-stored c).After-perform-answer c.count-2.new.self (c.count-2.ensures.counted c.perform-answer.new.bytes)
    ∙ ap (λ (s : Stored). stored_after s c.args.event.now) c.self.view_is

pub returns-clause-line : goal.returns-clause-line
returns-clause-line c =
    let at = (goal.at.returns-clause-line c).After-perform-answer in
    c.write_line.ensures.text ∙ ap (λ line. take c.args.at c.args.text.now ++ line)
    (ap (λ n. report_line n (shown c.perform-answer.new.bytes c.perform-answer.result))
    (events_are at c.count-2.new.self (c.count-2.ensures.counted c.perform-answer.new.bytes))
    ∙ line_is at)

pub invariant_of-self-2 : goal.invariant_of-self-2
invariant_of-self-2 c =
    let k = kept (goal.at.invariant_of-self-2 c).After-perform-answer c.count-2.new.self
    (c.count-2.ensures.counted c.perform-answer.new.bytes) c.count-2.ensures.bounded in
    record { reached = k.reached; bounded = k.bounded; long = k.long; legal = k.legal; few = k.few }

pub returns-clause-run : goal.returns-clause-run
returns-clause-run c run same =
    run_goes_on run c.args.self.now c.args.event.now same ∙ sym (ap (λ (s : Stored). s.replay) (returns-clause-stored c))

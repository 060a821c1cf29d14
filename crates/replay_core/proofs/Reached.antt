-- A replay that is what is stored of some run is so again after one more event.
use Rattle.std.proofs.Common.{◌≡◌, ℕ, List, [], ◌∷◌, ◌++◌, sym, ap, ◌∙◌, subst}
use Rattle.trace_event.specs.declared.event.Event.{Event}
use Rattle.replay_theory.specs.{Hardening.{AreNullOrTagged}, Run.{Run, run_after}, Totals.{Totals, totals_after}}
use Rattle.replay_theory.specs.Replay.{Replay, Answer, heap_after, variables_after, replay_after, answer_of, replay_of, first_replay}
use Rattle.heap_theory.specs.{Sound.{IsSoundHeap}, State.{Heap}}
use Rattle.replay_core.{proofs.StoredMore.{stored_of_one_more}, specs.ReplayState.{Stored, IsStored, stored_after, stored_of}}
use Rattle.replay_core.specs.TheoryValues.{over}
use Rattle.replay_core.proofs.TheoryLemmas as laws

replay_is : (stored : Stored) (i : IsStored stored) → stored.replay ≡ replay_of (first_replay i.layout i.seed i.quarantine) i.events
unfolding stored_of
replay_is stored i = ap (λ (s : Stored). s.replay) i.stored_is

pub sound_heap : (stored : Stored) → IsStored stored → IsSoundHeap stored.replay.heap
sound_heap stored i =
    subst (λ (r : Replay). IsSoundHeap r.heap) (laws.stored_part i.layout i.seed i.quarantine i.events ∙ sym (replay_is stored i))
    (laws.run_is_sound i.layout i.seed i.quarantine i.events i.partition).sound.heap

pub null_or_tagged : (stored : Stored) → IsStored stored → AreNullOrTagged stored.replay.variables
null_or_tagged stored i =
    subst (λ (r : Replay). AreNullOrTagged r.variables)
    (laws.stored_part i.layout i.seed i.quarantine i.events ∙ sym (replay_is stored i))
    (laws.null_or_tagged _ (laws.run_is_sound i.layout i.seed i.quarantine i.events i.partition).sound)

pub IsStored-after : (stored : Stored) (e : Event) → IsStored stored → IsStored (stored_after stored e)
IsStored-after stored e i = record {
  layout = i.layout;
  seed = i.seed;
  quarantine = i.quarantine;
  events = i.events ++ e ∷ [];
  partition = i.partition;
  stored_is = ap (λ s. stored_after s e) i.stored_is ∙ sym (stored_of_one_more i.layout i.seed i.quarantine i.events e);
}

-- the parts of what is stored, each after the event
pub stored_in_parts : (stored : Stored) (e : Event) (heap : Heap) (variables : List ℕ) (totals : Totals) (classes : List ℕ)
    (answer : Answer) → heap ≡ heap_after stored.replay e →
    variables ≡ variables_after stored.replay e → answer ≡ answer_of stored.replay e → classes ≡ stored.replay.heap.layout.classes →
    totals ≡ totals_after classes stored.totals (e, answer) →
    record { replay = over heap variables; totals = totals } ≡ stored_after stored e
unfolding stored_after replay_after
stored_in_parts stored e heap variables totals classes answer heap_is variables_are answer_is classes_are totals_are =
    let counted =
    totals_are ∙ ap (λ c. totals_after c stored.totals (e, answer)) classes_are
    ∙ ap (λ a. totals_after stored.replay.heap.layout.classes stored.totals (e, a)) answer_is in
    λ i. record { replay = record { heap = heap_is i; variables = variables_are i }; totals = counted i }

-- the run, with what is not stored, goes on with it
pub run_goes_on : (w : Run) (stored : Stored) (e : Event) → w.replay ≡ stored.replay →
    (run_after w e).replay ≡ (stored_after stored e).replay
unfolding run_after stored_after
run_goes_on w stored e same = ap (λ r. replay_after r e) same

-- The replay of a trace leaves the heap that its calls leave.
use Rattle.std.proofs.Common.{arith, ◌≡◌, ℕ, List, [], ◌∷◌, ◌++◌, refl, ap, sym, ◌∙◌}
use Rattle.class_table.specs.Layout.{Partition}
use Rattle.trace_event.specs.declared.event.{Event.{Event}}
use Rattle.heap_theory.specs.State.{Heap}
use Rattle.replay_theory.specs.Replay.{Replay, first_replay, heap_after as heap_of_event, replay_after, replay_of}
use Rattle.footprint_theory.proofs.LawLemmas.{takes_its_footprint}
use Rattle.footprint_theory.specs.{Calls.{Call, heap_after_all, heap_of}, Taken.{taken_bytes}}
use Rattle.footprint_theory.specs.Traces.{IsReplayRun, call_of, calls_of, replayed_heap}
use Rattle.tuner_theory.specs.{Timelines.{footprint_over}, declared.size_event.SizeEvent.{SizeEvent}}

after-event : (replay : Replay) (event : Event) (calls : List Call) →
    heap_after_all replay.heap (call_of replay event ++ calls) ≡ heap_after_all (replay_after replay event).heap calls
unfolding replay_after heap_of_event
after-event replay event calls = grind arith

after-events : (replay : Replay) (events : List Event) →
    heap_after_all replay.heap (calls_of replay events) ≡ (replay_of replay events).heap
unfolding replay_of
after-events replay [] = refl
after-events replay (event ∷ events) =
    after-event replay event (calls_of (replay_after replay event) events) ∙ after-events (replay_after replay event) events

pub replay_is_calls : (layout : Partition) (seed limit : ℕ) (trace : List Event) →
    heap_of layout seed limit (calls_of (first_replay layout seed limit) trace) ≡ replayed_heap layout seed limit trace
unfolding first_replay
replay_is_calls layout seed limit trace = after-events (first_replay layout seed limit) trace

pub replay_takes_its_footprint : (layout : Partition) (seed : ℕ) (trace : List Event) (events : List SizeEvent) →
    IsReplayRun layout seed 0 trace events → taken_bytes (replayed_heap layout seed 0 trace) ≡ footprint_over events layout.classes
replay_takes_its_footprint layout seed trace events run =
    ap (λ (h : Heap). taken_bytes h) (sym (replay_is_calls layout seed 0 trace))
    ∙ takes_its_footprint layout seed (calls_of (first_replay layout seed 0) trace) events run

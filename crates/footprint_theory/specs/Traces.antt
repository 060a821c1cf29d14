-- The calls of a trace.
use Rattle.std.specs.Prelude.{ℕ, List, [], ◌∷◌, ◌++◌, replicate}
use Rattle.machine_theory.specs.Address.{moved_by}
use Rattle.class_table.specs.Layout.{Partition}
use Rattle.trace_event.specs.declared.event.Event.{Event}
use Rattle.trace_event.specs.declared.event.Event.TheVariants.{Malloc as MallocEvent, Calloc as CallocEvent, Realloc as ReallocEvent}
use Rattle.trace_event.specs.declared.event.Event.TheVariants.{Free as FreeEvent, Store as StoreEvent}
use Rattle.heap_theory.specs.State.{Heap}
use Rattle.replay_theory.specs.Replay.{Replay, first_replay, replay_after, replay_of, variable}
use Rattle.footprint_theory.specs.Calls.{Call, Call.{Malloc, Calloc, Realloc, Release, Store}, IsRun}
use Rattle.tuner_theory.specs.declared.size_event.SizeEvent.{SizeEvent}

-- The call of an event, if it is one.
abbrev pub call_of : Replay → Event → List Call
call_of replay (MallocEvent v n) = Malloc n ∷ []
call_of replay (CallocEvent v n) = Calloc n ∷ []
call_of replay (ReallocEvent v n) = Realloc (variable replay v) n ∷ []
call_of replay (FreeEvent v) = Release (variable replay v) ∷ []
call_of replay (StoreEvent v off len byte) = Store (moved_by (variable replay v) off) (replicate len byte) ∷ []
call_of replay other = []

abbrev pub calls_of : Replay → List Event → List Call
calls_of replay [] = []
calls_of replay (event ∷ events) = call_of replay event ++ calls_of (replay_after replay event) events

-- The heap after the replay of a trace.
abbrev pub replayed_heap : Partition → ℕ → ℕ → List Event → Heap
replayed_heap layout seed limit trace = (replay_of (first_replay layout seed limit) trace).heap

-- What a replay answers of the requests and frees of a trace is by size alone what these events count.
abbrev pub IsReplayRun : Partition → ℕ → ℕ → List Event → List SizeEvent → Type 0
IsReplayRun layout seed limit trace events = IsRun layout seed limit (calls_of (first_replay layout seed limit) trace) events

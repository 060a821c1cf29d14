-- A run: a replay, and beside it two facts that no code stores: how often each slot was given out, and at which of these times each
-- variable got its address. No answer depends on them: what is stored determines each answer, and what is stored after it.
use Rattle.std.specs.Prelude.{ℕ, ◌+◌, zero, suc, ◌==◌, if◌then◌else◌, List, replicate, fold, slice_set, slice_index, slice_index_or, Option}
use Rattle.std.specs.{Prelude.{Some, None}, Result.{result_ok}}
use Rattle.class_table.specs.Layout.{IsPartition, Partition, slot_count}
use Rattle.trace_event.specs.declared.event.{Event.{Event}, Event.TheVariants.{Malloc, Calloc, Realloc, Addg, Subg}}
use Rattle.trace_event.specs.declared.event.TheConstants.Event.{LAST_VARIABLE}
use Rattle.heap_theory.specs.{Calls.{slot_if_moved}, Lookups.{slot_for_request, chunk_at}}
use Rattle.replay_theory.specs.Replay.{Replay, variable, replay_after, first_replay}

-- A generation: the time-th time that the slot was given out.
pub record Generation : Type 0 where
  pub slot : ℕ
  pub time : ℕ

-- A run: what is stored, for each slot the times that it was given out, and for each variable its generation, if it has one.
pub record Run : Type 0 where
  pub replay : Replay
  pub times : List ℕ
  pub generations : List (Option Generation)

abbrev pub times_of : Run → ℕ → ℕ
times_of run s = slice_index run.times s

abbrev pub generation_of : Run → ℕ → Option Generation
generation_of run v = slice_index_or run.generations v None

-- ---- which slot an event gives out

unfoldable pub slot_given : Replay → Event → Option ℕ
slot_given replay (Malloc v n) = result_ok (slot_for_request replay.heap n)
slot_given replay (Calloc v n) = result_ok (slot_for_request replay.heap n)
slot_given replay (Realloc v n) =
    if variable replay v == 0 then result_ok (slot_for_request replay.heap n) else slot_if_moved replay.heap n
    (chunk_at replay.heap (variable replay v))
slot_given replay other = None

-- ---- what an event leaves

abbrev pub times_with : Run → Option ℕ → List ℕ
times_with run None = run.times
times_with run (Some s) = slice_set run.times s (suc (times_of run s))

-- the generation that begins where a slot is given out, else the other one
abbrev pub begun_or : Run → Option Generation → Option ℕ → Option Generation
begun_or run other None = other
begun_or run other (Some s) = Some (record { slot = s; time = suc (times_of run s) })

-- the generation of an address that ADDG or SUBG makes of another: by 0 and 0 it is the same address, with its generation
abbrev pub moved_generation : Option Generation → ℕ → ℕ → Option Generation
moved_generation generation zero zero = generation
moved_generation generation u6 u4 = None

unfoldable pub generations_after : Run → Event → List (Option Generation)
generations_after run (Malloc v n) = slice_set run.generations v (begun_or run None (slot_given run.replay (Malloc v n)))
generations_after run (Calloc v n) = slice_set run.generations v (begun_or run None (slot_given run.replay (Calloc v n)))
generations_after run (Realloc v n) = slice_set run.generations v (begun_or run (generation_of run v) (slot_given run.replay (Realloc v n)))
generations_after run (Addg v w u6 u4) = slice_set run.generations v (moved_generation (generation_of run w) u6 u4)
generations_after run (Subg v w u6 u4) = slice_set run.generations v (moved_generation (generation_of run w) u6 u4)
generations_after run other = run.generations

unfoldable pub run_after : Run → Event → Run
run_after run event = record {
  replay = replay_after run.replay event;
  times = times_with run (slot_given run.replay event);
  generations = generations_after run event;
}

unfoldable pub first_run : Partition → ℕ → ℕ → Run
first_run layout seed quarantine = record {
  replay = first_replay layout seed quarantine;
  times = replicate (slot_count layout) 0;
  generations = replicate (LAST_VARIABLE + 1) None;
}

-- The run of a list of events, from a new heap on.
unfoldable pub run : Partition → ℕ → ℕ → List Event → Run
run layout seed quarantine events = fold run_after (first_run layout seed quarantine) events

-- ---- every run, and every event of a run

abbrev pub AfterEveryRun : (Run → Type 0) → Type 0
AfterEveryRun P =
    (layout : Partition) (seed quarantine : ℕ) (events : List Event) → IsPartition layout → P (run layout seed quarantine events)

abbrev pub AtEveryEvent : (ℕ → Run → Run → Type 0) → Type 0
AtEveryEvent P =
    (layout : Partition) (seed quarantine : ℕ) (events : List Event) (event : Event) → IsPartition layout →
    P quarantine (run layout seed quarantine events) (run_after (run layout seed quarantine events) event)

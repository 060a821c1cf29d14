-- What is stored of a run: the heap, the variables and the totals. How often a slot was given out, and from which giving-out a variable has
-- its address, is not stored.
use Rattle.std.specs.Prelude.{◌≡◌, ℕ, List, zip}
use Rattle.class_table.specs.Layout.{Partition, IsPartition}
use Rattle.trace_event.specs.declared.event.Event.{Event}
use Rattle.replay_theory.specs.{Replay.{Replay, replay_after, answer_of, first_replay, answers, replay_of}, Report.{report_lines}}
use Rattle.replay_theory.specs.Totals.{Totals, no_totals, totals_of, totals_after}

pub record Stored : Type 0 where
  pub replay : Replay
  pub totals : Totals

-- Nothing has happened yet.
unfoldable pub first_stored : Partition → ℕ → ℕ → Stored
first_stored layout seed quarantine = record { replay = first_replay layout seed quarantine; totals = no_totals }

-- One event more.
unfoldable pub stored_after : Stored → Event → Stored
stored_after stored event = record {
  replay = replay_after stored.replay event;
  totals = totals_after stored.replay.heap.layout.classes stored.totals (event, answer_of stored.replay event);
}

-- What is stored of the run of these events.
unfoldable pub stored_of : Partition → ℕ → ℕ → List Event → Stored
stored_of layout seed quarantine events = record {
  replay = replay_of (first_replay layout seed quarantine) events;
  totals = totals_of layout.classes (zip events (answers (first_replay layout seed quarantine) events));
}

-- The lines of the report on these events.
unfoldable pub lines_of : Partition → ℕ → ℕ → List Event → List ℕ
lines_of layout seed quarantine events = report_lines 1 (answers (first_replay layout seed quarantine) events)

-- It is stored of some run.
pub record IsStored (stored : Stored) : Type 0 where
  pub layout : Partition
  pub seed : ℕ
  pub quarantine : ℕ
  pub events : List Event
  pub partition : IsPartition layout
  pub stored_is : stored ≡ stored_of layout seed quarantine events

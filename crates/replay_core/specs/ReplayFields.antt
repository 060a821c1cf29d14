-- The fields of a replay, and what a contract sees of them.
use Rattle.std.specs.Prelude.{◌≡◌, ◌≤◌, length}
use Rattle.class_table.specs.Tables.{IsLegalTable}
use Rattle.replay_core.specs.{ReplayState.{Stored, IsStored}, TheoryValues.{over, totals_in}, TotalsBounds.{AreBounded}}
use Rattle.replay_core.specs.declared.replay.{Replay.TheInside.{Inside}, TheConstants.{VARIABLES}}

abbrev pub stored : Inside → Stored
stored replay = record { replay = over replay.heap.state replay.variables.items; totals = totals_in replay.totals }

-- It is stored of some run, whose totals are bounded; its classes are legal, and it has freed no more chunks than there were events.
pub record IsKept (replay : Inside) : Type 0 where
  pub reached : IsStored (stored replay)
  pub bounded : AreBounded (totals_in replay.totals)
  pub long : length replay.variables.items ≡ VARIABLES
  pub legal : IsLegalTable 1 replay.heap.state.layout.classes
  pub few : replay.heap.frees ≤ replay.totals.events

use Rattle.std.specs.List.{AllAdjacentBelow}
use Rattle.potential_check.specs.RowConditions.{StageDropHolds}
use Rattle.potential_check.proofs.sheet_on_spans.all_drops_hold.Given as goal

abbrev pub invariant-loop-index : goal.invariant-loop-index
invariant-loop-index l = AllAdjacentBelow StageDropHolds l.rows l.index

use Rattle.std.specs.List.{AllAdjacentBelow}
use Rattle.potential_check.specs.RowConditions.{EdgesHold}
use Rattle.potential_check.proofs.sheet_on_spans.all_edges_hold.Given as goal

abbrev pub invariant-loop-index : goal.invariant-loop-index
invariant-loop-index l = AllAdjacentBelow (EdgesHold l.spans) l.rows l.index

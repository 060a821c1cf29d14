use Rattle.potential_check.specs.Footprints.RowConditions.{WithinEdges}
use Rattle.potential_check.proofs.footprints.row_tests.is_within.Given as goal

abbrev pub invariant-loop-j : goal.invariant-loop-j
invariant-loop-j l = WithinEdges l.costs l.before l.number l.start l.j

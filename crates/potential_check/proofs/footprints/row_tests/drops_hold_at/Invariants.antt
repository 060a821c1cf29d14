use Rattle.std.proofs.Common.{◌≡◌}
use Rattle.potential_check.specs.Footprints.RowConditions.{DropsHoldAt}
use Rattle.tuner_theory.specs.Rows.{number_at}
use Rattle.potential_check.proofs.footprints.row_tests.drops_hold_at.Given as goal

abbrev pub invariant-loop-k : goal.invariant-loop-k
invariant-loop-k l = record {
  drops : DropsHoldAt l.rows l.i l.k;
  above : l.above ≡ number_at l.rows l.k l.i;
}

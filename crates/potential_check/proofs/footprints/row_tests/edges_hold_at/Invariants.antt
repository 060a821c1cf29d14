use Rattle.std.proofs.Common.{◌≡◌, ℕ, suc, ◌<◌, ◌≤◌, length}
use Rattle.potential_check.specs.Footprints.{Bounds.{AreRowBounds}, RowConditions.{EdgesHoldAt}}
use Rattle.tuner_theory.specs.{Lists.{lists_of}, Rows.{number_at}}
use Rattle.potential_check.proofs.footprints.row_tests.edges_hold_at.Given as goal

abbrev pub invariant-loop-k : goal.invariant-loop-k
invariant-loop-k l = record {
  edges : EdgesHoldAt l.costs l.rows l.places l.i l.k;
  bounds : AreRowBounds l.costs l.slack l.i l.places (length l.rows) (number_at l.rows) (lists_of l.bounds);
  above : l.above ≡ number_at l.rows l.k l.i;
  order : l.later ≤ l.here;
  alike : (m : ℕ) → l.here ≤ m → m < l.k → number_at l.rows (suc m) l.i ≡ number_at l.rows m l.i;
}

use Rattle.std.proofs.Common.{◌+◌, ◌^◌, ◌<◌, ◌≤◌, ℕ}
use Rattle.potential_check.specs.Footprints.RowConditions.{WithinEdges}
use Rattle.potential_check.proofs.footprints.row_tests.least_of_block.Given as goal

abbrev pub invariant-loop-k : goal.invariant-loop-k
invariant-loop-k l = record {
  within : WithinEdges l.costs l.before l.low l.start (l.start + l.k);
  greatest : (number : ℕ) → number < 2 ^ 64 → WithinEdges l.costs l.before number l.start (l.start + l.k) → number ≤ l.low;
}

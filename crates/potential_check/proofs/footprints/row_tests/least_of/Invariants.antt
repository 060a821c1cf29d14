use Rattle.std.proofs.Common.{◌^◌, ◌<◌, ◌≤◌, ℕ}
use Rattle.potential_check.specs.Footprints.RowConditions.{WithinEdges}
use Rattle.potential_check.proofs.footprints.row_tests.least_of.Given as goal

abbrev pub invariant-loop-j : goal.invariant-loop-j
invariant-loop-j l = record {
  within : WithinEdges l.costs l.before l.low l.start l.j;
  greatest : (number : ℕ) → number < 2 ^ 64 → WithinEdges l.costs l.before number l.start l.j → number ≤ l.low;
}

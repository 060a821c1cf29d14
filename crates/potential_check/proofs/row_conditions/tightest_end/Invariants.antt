use Rattle.std.proofs.Common.{◌≡◌, ℕ, ◌<◌, ◌≤◌}
use Rattle.potential_check.specs.RowConditions.{edge_bound}
use Rattle.potential_check.proofs.row_conditions.tightest_end.Given as goal

abbrev pub invariant-loop-j : goal.invariant-loop-j
invariant-loop-j l = record {
  from : l.fn.ends.start ≤ l.end;
  below : l.end < l.j;
  bound : l.least ≡ edge_bound l.spans l.before l.i l.end;
  least : (j : ℕ) → l.fn.ends.start ≤ j → j < l.j → l.least ≤ edge_bound l.spans l.before l.i j;
}

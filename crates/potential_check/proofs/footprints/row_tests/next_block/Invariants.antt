use Rattle.std.proofs.Common.{◌-◌, ◌<◌, ◌≤◌, ℕ, slice_index}
use Rattle.potential_check.proofs.footprints.row_tests.next_block.Given as goal

abbrev pub invariant-loop-block : goal.invariant-loop-block
invariant-loop-block l = record {
  past : (b : ℕ) → l.from ≤ b → b < l.block → l.number ≤ slice_index l.bounds b - slice_index l.slack b;
}

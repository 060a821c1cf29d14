use Rattle.std.proofs.Common.{◌+◌, ◌-◌, ◌<◌, ◌≤◌, ℕ, slice_index}
use Rattle.class_tuner.proofs.fits.ends.next_block.Given as goal

abbrev pub invariant-loop-block : goal.invariant-loop-block
invariant-loop-block l = record {
  order : l.from ≤ l.block;
  past : (b : ℕ) → l.from ≤ b → b < l.block → l.least + slice_index l.slack b < slice_index l.bounds b;
}

abbrev pub decreases-loop-block : goal.decreases-loop-block
decreases-loop-block l = l.blocks - l.block

abbrev pub invariant-loop-next : goal.invariant-loop-next
invariant-loop-next l = record {
  past : (b : ℕ) → l.from ≤ b → b < l.next → l.least + slice_index l.slack b < slice_index l.bounds b;
}

use Rattle.std.proofs.{Common.{arith}, lemmas.Grind.{same_number_lists}}
use Rattle.potential_check.proofs.footprints.snapshot_sums.copy_narrow.Goals as goal

pub returns : goal.returns
returns c = same_number_lists _ _ c.loop-j.invariant.size (λ k lt. c.loop-j.invariant.copied k (omega arith))

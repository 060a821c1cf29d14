use Rattle.potential_check.specs.Footprints.SnapshotSums.{IsRaised}
use Rattle.potential_check.proofs.footprints.snapshot_sums.raise.Given as goal

abbrev pub invariant-loop-j : goal.invariant-loop-j
invariant-loop-j l = record { raised : IsRaised l.sums l.i l.j l.fn.numbers l.numbers }

use Rattle.std.proofs.Common.{[], ◌∷◌}
use Rattle.potential_check.specs.Footprints.SnapshotSums.{IsRaisedBy}
use Rattle.potential_check.proofs.footprints.snapshot_sums.raise_one.Given as goal

abbrev pub invariant-loop-j : goal.invariant-loop-j
invariant-loop-j l = record { raised : IsRaisedBy (l.sums ∷ []) l.i l.start l.j l.fn.numbers l.numbers }

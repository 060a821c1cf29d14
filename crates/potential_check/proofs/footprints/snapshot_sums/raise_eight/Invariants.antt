use Rattle.std.proofs.Common.{[], ◌∷◌}
use Rattle.potential_check.specs.Footprints.SnapshotSums.{IsRaisedBy}
use Rattle.potential_check.proofs.footprints.snapshot_sums.raise_eight.Given as goal

abbrev pub invariant-loop-j : goal.invariant-loop-j
invariant-loop-j l = record {
  raised : IsRaisedBy (l.s0 ∷ l.s1 ∷ l.s2 ∷ l.s3 ∷ l.s4 ∷ l.s5 ∷ l.s6 ∷ l.s7 ∷ []) l.i l.start l.j l.fn.numbers l.numbers;
}

use Rattle.std.proofs.Common.{◌≡◌, take}
use Rattle.tuner_theory.specs.Lists.{lists_of}
use Rattle.potential_check.proofs.footprints.snapshot_sums.narrow_sums.Given as goal

abbrev pub invariant-loop-t : goal.invariant-loop-t
invariant-loop-t l = record { taken : lists_of l.narrow.items ≡ take l.t (lists_of l.sums) }

use Rattle.potential_check.proofs.FootprintLemmas.UpTo.{AreSumsOfFirst}
use Rattle.tuner_theory.specs.Lists.{lists_of}
use Rattle.potential_check.proofs.footprints.snapshot_sums.SnapshotSums.new.Given as goal

abbrev pub invariant-loop-t : goal.invariant-loop-t
invariant-loop-t l = record {
  first : AreSumsOfFirst l.history.snapshots l.spans.counts l.spans.step l.t (lists_of l.sums.items);
}

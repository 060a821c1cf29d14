use Rattle.std.proofs.Common.{arith}
use Rattle.tuner_theory.{proofs.Lists.{lists-length, row-read_at}, specs.Lists.{lists_of}}
use Rattle.potential_check.proofs.FootprintLemmas.Snapshots.{sums-at}
use Rattle.potential_check.proofs.footprints.snapshot_sums.SnapshotSums.sums_at.Goals as goal

pub returns : goal.returns
returns c =
    let s = c.args.self.now in
    sums-at s.history.now.snapshots s.spans.now.counts s.spans.now.step (lists_of s.sums.items) s.holds c.args.t c.deref.result.now
    (omega (arith, c.requires, s.holds.sums_are.size, lists-length s.sums.items))
    (grind (arith, row-read_at, lists-length))

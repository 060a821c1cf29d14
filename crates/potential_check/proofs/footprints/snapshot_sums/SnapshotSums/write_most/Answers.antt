use Rattle.std.proofs.Common.{arith}
use Rattle.tuner_theory.{proofs.Lists.{lists-length}, specs.Lists.{lists_of}}
use Rattle.potential_check.proofs.FootprintLemmas.Snapshots.{most-all, most-raised}
use Rattle.potential_check.proofs.footprints.snapshot_sums.SnapshotSums.write_most.Goals as goal

pub loop-t-preserved : goal.loop-t-preserved
loop-t-preserved c =
    let s = c.args.self.now in
    record {
      most = most-raised s.history.now.snapshots s.spans.now.counts s.spans.now.step (lists_of s.sums.items) s.holds c.args.i c.loop-t.t
          c.sums_at.result.now c.loop-t.most c.raise.new.numbers c.sums_at.ensures.within c.sums_at.ensures.read c.loop-t.invariant.most
          c.raise.ensures;
    }

pub returns : goal.returns
returns c =
    let s = c.args.self.now in
    most-all s.history.now.snapshots s.spans.now.counts s.spans.now.step (lists_of s.sums.items) s.holds c.args.i c.loop-t.t
    c.loop-t.most (omega (arith, s.holds.sums_are.size, lists-length s.sums.items)) c.loop-t.invariant.most

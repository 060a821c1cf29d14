use Rattle.std.proofs.Common.{[], ◌∷◌, arith, ◌∙◌}
use Rattle.tuner_theory.specs.Lists.{lists_of}
use Rattle.potential_check.proofs.FootprintLemmas.Snapshots.{most-raised_in}
use Rattle.potential_check.proofs.footprints.snapshot_sums.SnapshotSums.raise_rest.Goals as goal

pub loop-t-preserved : goal.loop-t-preserved
loop-t-preserved c =
    let s = c.args.self.now in
    let row = c.narrow_at in
    record {
      size = c.raise_one.ensures.size ∙ c.loop-t.invariant.size;
      most = most-raised_in s.history.now.snapshots s.spans.now.counts s.spans.now.step (lists_of s.sums.items) s.holds c.args.i
          c.args.start c.args.stop c.loop-t.t c.loop-t.t (row.result.now ∷ []) c.loop-t.most c.raise_one.new.numbers c.requires.after
          c.requires.within (omega (arith, row.ensures.within)) (row.ensures.read, tt) (omega arith) (omega arith)
          c.loop-t.invariant.most c.raise_one.ensures;
    }

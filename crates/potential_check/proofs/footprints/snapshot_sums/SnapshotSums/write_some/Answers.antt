use Rattle.std.proofs.Common.{◌*◌, ap, arith, ◌∙◌}
use Rattle.class_table.specs.Sizes.{granule_bytes}
use Rattle.tuner_theory.specs.Lists.{lists_of}
use Rattle.potential_check.proofs.FootprintLemmas.Snapshots.{most-all_in, written-more}
use Rattle.potential_check.proofs.footprints.snapshot_sums.SnapshotSums.write_some.Goals as goal

pub loop-j-preserved : goal.loop-j-preserved
loop-j-preserved c =
    let s = c.args.self.now in
    let j = c.loop-j.j in
    let m = c.from.result in
    record {
      written = written-more s.history.now.snapshots s.spans.now.counts s.spans.now.step (lists_of s.sums.items) s.holds c.args.i j
          (m * c.need_bytes.result) m c.loop-j.costs c.loop-j.invariant.written (omega arith)
          (omega (arith, c.requires.before.size, c.requires.within))
          (c.from.ensures ∙ most-all_in s.history.now.snapshots s.spans.now.counts s.spans.now.step (lists_of s.sums.items) s.holds
          c.args.i c.args.start c.args.stop j c.raise_some.new.most (omega arith) (omega arith) c.raise_some.ensures.most)
          (ap (λ n. m * n) (c.need_bytes.ensures ∙ ap (λ n. granule_bytes * n) (c.needs-needs.ensures.needs j (omega arith) (omega arith))));
    }

use Rattle.std.proofs.Common.{◌*◌, slice_index, arith, ap}
use Rattle.potential_check.proofs.FootprintLemmas.Snapshots.{product-fits, scaled-more}
use Rattle.tuner_theory.specs.Lists.{lists_of}
use Rattle.potential_check.proofs.footprints.snapshot_sums.SnapshotSums.write_wide.Goals as goal

pub overflow_mul-costs : goal.overflow_mul-costs
overflow_mul-costs c =
    let s = c.args.self.now in
    let j = c.loop-j.j in
    let m = slice_index c.loop-j.costs j in
    omega (
      arith,
      product-fits s.history.now.snapshots s.spans.now.counts s.spans.now.step (lists_of s.sums.items) s.holds c.args.i j
          (m * c.class_bytes.result) m (omega arith) (omega arith)
          (omega arith) (ap (λ n. m * n) c.class_bytes.ensures),
    )

pub loop-j-preserved : goal.loop-j-preserved
loop-j-preserved c =
    let s = c.args.self.now in
    record {
      scaled = scaled-more s.history.now.snapshots s.spans.now.counts s.spans.now.step (lists_of s.sums.items) s.holds c.args.i
          c.loop-j.j (slice_index c.loop-j.costs c.loop-j.j * c.class_bytes.result) c.loop-j.costs c.loop-j.invariant.scaled
          (omega arith) (omega arith) (ap (λ n. slice_index c.loop-j.costs c.loop-j.j * n) c.class_bytes.ensures);
    }

pub returns : goal.returns
returns c = omega arith

use Rattle.std.proofs.Common.{◌≡◌, ◌+◌, slice_index, arith}
use Rattle.tuner_theory.{proofs.Sums.{sum_below-none}, specs.Waste.{sum_below}}
use Rattle.potential_check.proofs.FootprintLemmas.UpTo.{sum-grows, sum-small, sums-more}
use Rattle.potential_check.proofs.footprints.snapshot_sums.sums_up_to.Goals as goal

pub loop-p-init : goal.loop-p-init
loop-p-init c = grind (arith, sum_below-none)

pub overflow_add-total : goal.overflow_add-total
overflow_add-total c = grind (arith, sum-small)

pub loop-p-preserved : goal.loop-p-preserved
loop-p-preserved c =
    let f = slice_index c.args.column.now in
    let p = c.loop-p.p in
    let stop = slice_index c.args.cuts.now p in
    let total : c.loop-p.total + c.blocks_between-total.result ≡ sum_below f stop =
    omega (
      arith,
      c.loop-p.invariant.total,
      c.blocks_between-total.ensures.blocks,
      sum-grows f c.loop-p.start stop (c.loop-p.invariant.order p (omega arith) (omega arith)),
    ) in
    rw c.in_ok-push-2.ensures.items (record {
      sums = sums-more c.args.column.now c.args.cuts.now p _ c.loop-p.sums.items c.loop-p.invariant.sums total;
      total = total;
      inside = c.requires.within p (omega arith);
      order = λ q le lt. c.requires.ascend p q (omega arith) lt;
    })

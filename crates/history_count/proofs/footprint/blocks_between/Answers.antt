use Rattle.std.proofs.Common.{◌≤◌, slice_index, add-one, arith}
use Rattle.tuner_theory.{proofs.Sums.{sum_below-more}, specs.Profiles.{greatest_count}}
use Rattle.history_count.proofs.footprint.blocks_between.Goals as goal

pub loop-k-preserved : goal.loop-k-preserved
loop-k-preserved c =
    let column = c.args.column.now in
    let k = c.loop-k.k in
    let few : c.from-total.result ≤ greatest_count = omega (arith, c.from-total.ensures, c.requires.few k) in
    record {
      sum = rw add-one (omega (arith, sum_below-more (slice_index column) k, c.loop-k.invariant.sum, c.from-total.ensures));
      small = omega (arith, c.loop-k.invariant.small, few);
    }

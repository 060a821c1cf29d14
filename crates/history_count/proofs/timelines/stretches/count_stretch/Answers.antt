use Rattle.std.proofs.Common.{ℕ, List, max, slice_index, arith, ap, ◌∙◌}
use Rattle.history_count.proofs.TimelineLemmas.Columns.{bounds-more, bounds-start}
use Rattle.history_count.proofs.timelines.stretches.count_stretch.Goals as goal

pub loop-k-init : goal.loop-k-init
loop-k-init c = grind (arith, bounds-start)

pub loop-k-preserved : goal.loop-k-preserved
loop-k-preserved c = record {
  counts = c.count_most.ensures.counts;
  below = λ j. omega (arith, c.count_most.ensures.most j);
  bounds = bounds-more c.args.events.now c.args.requested.now.sizes.items c.args.from c.loop-k.k c.loop-k.most c.count_most.new.most
      c.requires.timeline c.requires.requested.sizes_are c.loop-k.invariant.bounds c.count_most.auto.most
      (λ j. c.count_most.ensures.most j ∙ ap (λ (s : List ℕ). max (slice_index c.loop-k.most j) (slice_index s j)) c.count_most.ensures.counts);
}

use Rattle.std.proofs.Common.{ℕ, ◌+◌, max, cond, ltb, ap, ◌∙◌}
use Rattle.history_count.{proofs.TimelineLemmas.Peaks.{peak-more}, specs.Histories.{blocks_from}}
use Rattle.history_count.proofs.timelines.peaks.peak_between.Goals as goal

pub loop-k-preserved : goal.loop-k-preserved
loop-k-preserved c =
    let peak = c.loop-k.peak in
    let live = c.live_after-live.ensures in
    record {
      live = live;
      peak = λ floor so_far.
          peak-more (blocks_from c.args.span.low c.args.span.end) c.args.events.now floor c.loop-k.k peak c.higher-peak.result
          (c.loop-k.invariant.peak floor so_far) (c.higher-peak.ensures.most ∙ ap (max peak.most) live)
          (c.higher-peak.ensures.first ∙ ap (λ (now : ℕ). cond {A = ℕ} (ltb peak.most now) (c.loop-k.k + 1) peak.first) live);
    }

use Rattle.std.proofs.Common.{◌≡◌}
use Rattle.tuner_theory.specs.Timelines.{snapshot_at}
use Rattle.history_count.specs.{Histories.{blocks_from}, Timelines.Stretches.{IsPeakAfter}}
use Rattle.history_count.proofs.timelines.peaks.peak_between.Given as goal

abbrev pub invariant-loop-k : goal.invariant-loop-k
invariant-loop-k l = record {
  live : l.live ≡ blocks_from l.span.low l.span.end (snapshot_at l.events l.k);
  peak : IsPeakAfter (blocks_from l.span.low l.span.end) l.events l.fn.from l.k l.fn.peak l.peak;
}

use Rattle.std.proofs.Common.{slice_index}
use Rattle.history_count.specs.{Histories.{blocks_from}, Timelines.Stretches.{IsPeakTo}}
use Rattle.history_count.proofs.timelines.peaks.span_peak.Given as goal

abbrev pub invariant-loop-b : goal.invariant-loop-b
invariant-loop-b l = record {
  peak : IsPeakTo (blocks_from l.span.low l.span.end) l.events l.initial.peak.most (slice_index l.stretches.starts.items l.b) l.peak;
}

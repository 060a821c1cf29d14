use Rattle.history_count.specs.Timelines.{LiveBlocks.{AreKnown, AreLive}, Requests.{IsLeastSoFar}}
use Rattle.history_count.proofs.timelines.counting.class_peaks.Given as goal

abbrev pub invariant-loop-k : goal.invariant-loop-k
invariant-loop-k l = record {
  live : AreLive l.events l.table l.k l.live.items l.most.items l.firsts.items;
  known : AreKnown l.table l.known.items;
  least : IsLeastSoFar l.events l.table l.k l.least;
}

use Rattle.std.proofs.Common.{◌≡◌}
use Rattle.history_count.specs.Timelines.{Requests.{IsLargestSoFar}, Stretches.{AreLinesBelow, AreSeen}}
use Rattle.history_count.proofs.timelines.requested_sizes.find_requested_sizes.Given as goal

abbrev pub invariant-loop-k : goal.invariant-loop-k
invariant-loop-k l = record {
  seen : AreSeen l.events l.k l.seen.items;
  largest : IsLargestSoFar l.events l.k l.largest.above l.largest.moment;
}

abbrev pub invariant-loop-n : goal.invariant-loop-n
invariant-loop-n l = record {
  below : AreLinesBelow l.seen.items l.n l.requested.sizes.items l.requested.lines.items;
  largest : l.requested.largest ≡ l.initial.requested.largest;
}

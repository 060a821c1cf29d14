use Rattle.std.proofs.Common.{◌≡◌, ◌-◌, ◌≤◌, length}
use Rattle.tuner_theory.specs.{Lists.{lists_of}, Timelines.{snapshot_at}}
use Rattle.history_count.specs.Timelines.Stretches.{AreStretchesTo, column_of}
use Rattle.history_count.proofs.timelines.stretches.stretches_of.Given as goal

abbrev pub invariant-loop-from : goal.invariant-loop-from
invariant-loop-from l = record {
  within : l.from ≤ length l.events;
  counts : l.counts.items ≡ column_of l.requested.sizes.items (snapshot_at l.events l.from);
  stretches : AreStretchesTo l.events l.requested.sizes.items l.from l.stretches.starts.items (lists_of l.stretches.before.items)
      (lists_of l.stretches.most.items);
}

abbrev pub decreases-loop-from : goal.decreases-loop-from
decreases-loop-from l = length l.events - l.from

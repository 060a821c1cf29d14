use Rattle.std.proofs.Common.{◌≡◌, map, take}
use Rattle.tuner_theory.specs.{Lists.{lists_of}, Timelines.{snapshot_at}}
use Rattle.history_count.specs.Timelines.Stretches.{column_of}
use Rattle.history_count.proofs.timelines.index.TimelineIndex.history_at.Given as goal

abbrev pub invariant-loop-i : goal.invariant-loop-i
invariant-loop-i l = record {
  rows : lists_of l.rows.items
      ≡ map (λ m. column_of l.self-inside.requested.sizes.items (snapshot_at l.self-inside.events.now m)) (take l.i l.numbers);
}

use Rattle.std.proofs.Common.{◌≡◌}
use Rattle.tuner_theory.specs.Timelines.{snapshot_at}
use Rattle.history_count.specs.Timelines.Stretches.{column_of}
use Rattle.history_count.proofs.timelines.stretches.counts_at.Given as goal

abbrev pub invariant-loop-k : goal.invariant-loop-k
invariant-loop-k l = record { counts : l.counts.items ≡ column_of l.requested.sizes.items (snapshot_at l.events l.k) }

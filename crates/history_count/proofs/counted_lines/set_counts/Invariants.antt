use Rattle.std.proofs.Common.{◌≡◌, take}
use Rattle.tuner_theory.specs.Lists.{lists_of}
use Rattle.history_count.specs.Histories.{with_counts}
use Rattle.history_count.proofs.counted_lines.set_counts.Given as goal

abbrev pub invariant-loop-t : goal.invariant-loop-t
invariant-loop-t l = record { so_far : lists_of l.columns.items ≡ with_counts (lists_of l.fn.columns.items) l.line (take l.t l.counts) }

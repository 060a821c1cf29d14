use Rattle.std.proofs.Common.{◌≡◌, max, drop}
use Rattle.history_count.specs.Histories.{greatest_of}
use Rattle.history_count.proofs.counted_lines.greatest.Given as goal

abbrev pub invariant-loop-count : goal.invariant-loop-count
invariant-loop-count l = record { rest : max l.most (greatest_of (drop l.count-index l.counts)) ≡ greatest_of l.counts }

use Rattle.std.proofs.Common.{◌≡◌, max, drop}
use Rattle.history_count.specs.Histories.{greatest_of}
use Rattle.history_count.proofs.class_sums.most_of.Given as goal

abbrev pub invariant-loop-number : goal.invariant-loop-number
invariant-loop-number l = record { rest : max l.most (greatest_of (drop l.number-index l.blocks)) ≡ greatest_of l.blocks }

use Rattle.std.proofs.Common.{◌≡◌, take}
use Rattle.history_count.specs.ClassSums.{sum_of_rows}
use Rattle.history_count.proofs.class_sums.add_row.Given as goal

abbrev pub invariant-loop-t : goal.invariant-loop-t
invariant-loop-t l = l.blocks ≡ sum_of_rows l.fn.blocks (take l.t l.counts)

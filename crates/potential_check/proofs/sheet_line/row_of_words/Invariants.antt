use Rattle.std.proofs.Common.{length}
use Rattle.potential_check.proofs.RowNumbers.{RowSoFar}
use Rattle.potential_check.proofs.sheet_line.row_of_words.Given as goal

abbrev pub invariant-loop-read : goal.invariant-loop-read
invariant-loop-read l = RowSoFar l.fn.words l.words l.row.items

abbrev pub decreases-loop-read : goal.decreases-loop-read
decreases-loop-read l = length l.words

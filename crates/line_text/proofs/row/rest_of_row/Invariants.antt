use Rattle.std.proofs.Common.{List, ℕ, take}
use Rattle.line_text.specs.Rows.{IsRowSoFar}
use Rattle.line_text.proofs.row.rest_of_row.Given as goal

abbrev pub invariant-loop-place : goal.invariant-loop-place
invariant-loop-place l = record {
  row : (text : List ℕ) → IsRowSoFar text l.fn.rest l.first (take l.from l.fn.numbers)
      → IsRowSoFar text l.rest l.first (take l.place l.numbers);
}

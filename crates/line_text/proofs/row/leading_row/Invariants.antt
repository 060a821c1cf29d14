use Rattle.std.proofs.Common.{◌-◌, ◌≤◌, length, take}
use Rattle.line_text.specs.Rows.{IsRowSoFar}
use Rattle.line_text.proofs.row.leading_row.Given as goal

abbrev pub invariant-loop-place : goal.invariant-loop-place
invariant-loop-place l = record {
  within : l.place ≤ length l.numbers;
  row : IsRowSoFar l.text l.rest l.first (take l.place l.numbers);
}

abbrev pub decreases-loop-place : goal.decreases-loop-place
decreases-loop-place l = length l.numbers - l.place

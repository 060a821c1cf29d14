use Rattle.std.proofs.{Common.{arith}, lemmas.Grind.{common_steps}}
use Rattle.std.{proofs.lemmas.List.Sums.{prefix_len-le-length}}
use Rattle.line_text.proofs.LeadingDigits.{are_digits, no_number, a_number}
use Rattle.line_text.proofs.leading_number.leading_number.Goals as goal

pub returns-then-end-eq0-clause-number : goal.returns-then-end-eq0-clause-number
returns-then-end-eq0-clause-number c = grind (arith, prefix_len-le-length, no_number)

pub returns-clause-number : goal.returns-clause-number
returns-clause-number c = grind (arith, a_number, prefix_len-le-length, are_digits)

pub slice_bounds-result-start : goal.slice_bounds-result-start
slice_bounds-result-start c = grind (arith, common_steps)

pub slice_bounds-result-count : goal.slice_bounds-result-count
slice_bounds-result-count c = grind (arith, common_steps)

use Rattle.line_text.proofs.LeadingDigits.{leading_of_near}
use Rattle.line_text.proofs.leading_number.digits_in_front.Goals as goal

pub returns-in-Some-near_digits : goal.returns-in-Some-near_digits
returns-in-Some-near_digits c =
    leading_of_near c.args.text.now c.in-Some-near_digits.end c.in-Some-near_digits.value
    (rw c.in-Some.ensures.cases.0 at c.in-Some-near_digits.ensures)

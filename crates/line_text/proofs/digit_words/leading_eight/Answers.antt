use Rattle.line_text.proofs.LeadingDigits.{are_digits}
use Rattle.line_text.proofs.digit_words.leading_eight.Goals as goal

pub value_of-requires-in-Some-clause-digits : goal.value_of-requires-in-Some-clause-digits
value_of-requires-in-Some-clause-digits c = rw c.in-Some.ensures.count (are_digits c.args.bytes.now)

use Rattle.std.proofs.Common.{◌∙◌, ap}
use Rattle.line_text.proofs.JoinedDigits.{joined, joined_is}
use Rattle.line_text.proofs.digit_words.join_digits.Goals as goal

pub returns : goal.returns
returns c ds eight small is = ap joined is ∙ joined_is ds eight small

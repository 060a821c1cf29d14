use Rattle.std.proofs.Common.{◌∙◌}
use Rattle.line_text.proofs.LeadingWord.{moved}
use Rattle.line_text.proofs.digit_words.value_of.Goals as goal

pub returns : goal.returns
returns c =
    let word = moved c.args.bytes.now c.from_le_bytes-digits.result c.args.count c.told-bytes c.from_le_bytes-digits.ensures
    c.requires.digits c.requires.some c.requires.few in
    c.join_digits.ensures word.digits word.full word.small word.is ∙ word.value

use Rattle.std.{proofs.Common.{◌+◌, ◌*◌, ◌/◌, ◌%◌, ◌^◌, ◌∙◌, sym, ap}, proofs.lemmas.Int.Digits.{digits_value_is}, specs.Int.Bits.{bit_and}}
use Rattle.line_text.proofs.{DigitWords.{IsDigitWord, four_digits, values}, JoinedDigits.{joined_four}}
use Rattle.line_text.proofs.digit_words.digits_in_four.Goals as goal

is_word : (c : goal.Else-digits-ne0) → IsDigitWord c.args.bytes.now 4 ((c.from_le_bytes-digits.result + 3486502864) % 2 ^ 32)
is_word c =
    four_digits c.args.bytes.now c.from_le_bytes-digits.result c.told-bytes c.fits-bytes c.from_le_bytes-digits.ensures
    c.if-digits-ne0.false

pub returns-clause-digits : goal.returns-clause-digits
returns-clause-digits c = (is_word c).digits

pub returns-clause-value : goal.returns-clause-value
returns-clause-value c =
    ap (λ n. bit_and (n * 2561 % 2 ^ 32 / 256) 16711935 * 6553601 % 2 ^ 32 / 65536) (is_word c).is
    ∙ joined_four (values c.args.bytes.now) (is_word c).full (is_word c).small ∙ sym (digits_value_is 10 c.args.bytes.now)

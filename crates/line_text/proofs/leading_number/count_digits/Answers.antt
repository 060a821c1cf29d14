use Rattle.std.proofs.Common.{◌+◌, sym, ◌∙◌, arith}
use Rattle.line_text.proofs.{Digits.{one_more, digits_more, room_for_one}, LeadingDigits.{leading_up_to, reaches}}
use Rattle.line_text.proofs.leading_number.count_digits.Goals as goal

pub returns-then-end-eq-SHORT_DIGITS : goal.returns-then-end-eq-SHORT_DIGITS
returns-then-end-eq-SHORT_DIGITS c =
    let text = c.args.text.now in
    let i = c.loop-byte.byte-index in
    let digit = sym c.is_ascii_digit.ensures.value ∙ c.if-not-is_ascii_digit.false in
    omega (
      arith,
      reaches text (i + 1) (omega arith) (digits_more text i (omega arith) digit c.loop-byte.invariant.digits),
      c.if-end-eq-SHORT_DIGITS.true,
      c.loop-byte.invariant.end,
    )

pub loop-byte-preserved : goal.loop-byte-preserved
loop-byte-preserved c = grind (arith, digits_more, one_more)

pub returns-after-loop-byte : goal.returns-after-loop-byte
returns-after-loop-byte c =
    let i = c.loop-byte.invariant in
    leading_up_to c.args.text.now c.loop-byte.byte-index _ _ (omega arith) i.end i.few i.digits i.value
    (λ within. absurd (omega (arith, c.loop-byte-test.false, within)))

pub returns-then-not-is_ascii_digit : goal.returns-then-not-is_ascii_digit
returns-then-not-is_ascii_digit c =
    let i = c.loop-byte.invariant in
    leading_up_to c.args.text.now c.loop-byte.byte-index _ _ (omega arith) i.end i.few i.digits i.value
    (λ within. sym c.is_ascii_digit.ensures.value ∙ c.if-not-is_ascii_digit.true)

pub overflow_add-value : goal.overflow_add-value
overflow_add-value c = grind (arith, room_for_one)

pub overflow_mul-value : goal.overflow_mul-value
overflow_mul-value c = grind (arith, room_for_one)

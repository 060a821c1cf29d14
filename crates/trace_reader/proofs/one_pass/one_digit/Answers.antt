use Rattle.std.proofs.{Common.{arith}, lemmas.List.{take_rest}}
use Rattle.trace_reader.proofs.DigitsInFront.{digits_end, first_digit}
use Rattle.trace_reader.proofs.one_pass.one_digit.Goals as goal

pub returns : goal.returns
returns c =
    let text = c.args.text.now in
    let value = c.digit_of-value.result in
    let one = first_digit text value (omega arith) (c.digit_of-value.ensures (omega arith)) (omega arith) in
    rw take_rest (digits_end text 1 2 value c.args.end (omega arith) (omega arith) one c.if-text-end.false)

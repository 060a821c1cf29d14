use Rattle.std.proofs.{Common.{◌+◌, ◌*◌, arith}, lemmas.List.{take_rest}}
use Rattle.trace_reader.proofs.DigitsInFront.{digit_more, digits_end, first_digit}
use Rattle.trace_reader.proofs.one_pass.two_digits.Goals as goal

pub returns : goal.returns
returns c =
    let text = c.args.text.now in
    let tens = c.digit_of-tens.result in
    let ones = c.digit_of-ones.result in
    let one = first_digit text tens (omega arith) (c.digit_of-tens.ensures (omega arith)) (omega arith) in
    let two =
    digit_more text 1 tens ones (omega arith) (c.digit_of-ones.ensures (omega arith)) (omega arith) (omega arith) (omega arith) one in
    rw take_rest (digits_end text 2 3 (tens * 10 + ones) c.args.end (omega arith) (omega arith) two c.if-text-end.false)

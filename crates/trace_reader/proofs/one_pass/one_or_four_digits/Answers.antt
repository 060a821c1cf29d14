use Rattle.std.{proofs.Common.{◌+◌, ◌*◌, ◌≤◌, arith}}
use Rattle.trace_reader.proofs.DigitsInFront.{digit_more, first_digit}
use Rattle.trace_reader.proofs.one_pass.one_or_four_digits.Goals as goal

pub returns-then-text-end-clause-spelled : goal.returns-then-text-end-clause-spelled
returns-then-text-end-clause-spelled c = grind (arith, first_digit)

pub returns-clause-spelled : goal.returns-clause-spelled
returns-clause-spelled c = λ some.
    let text = c.args.text.now in
    let tens = c.digit_of-tens.result in
    let ones = c.digit_of-ones.result in
    let small : tens ≤ 2 = omega arith in
    let one = first_digit text 1 (omega arith) (omega arith) (omega arith) in
    let two = digit_more text 1 1 0 (omega arith) (omega arith) (omega arith) (omega arith) (omega arith) one in
    let three =
    digit_more text 2 10 tens (omega arith) (c.digit_of-tens.ensures (omega arith)) (omega arith) (omega arith) (omega arith) two in
    let four =
    digit_more text 3 (10 * 10 + tens) ones (omega arith) (c.digit_of-ones.ensures (omega arith)) (omega arith) (omega arith)
    (omega (arith, small)) three in
    grind arith

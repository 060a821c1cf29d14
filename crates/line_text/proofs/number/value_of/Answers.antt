use Rattle.std.proofs.Common.{◌≡◌, arith, take, take_all}
use Rattle.line_text.proofs.Digits.{one_more, number_so_far, digit_at}
use Rattle.line_text.proofs.number.value_of.Goals as goal

pub returns-in_err-checked_mul : goal.returns-in_err-checked_mul
returns-in_err-checked_mul c = grind (arith, number_so_far)

pub returns-in_err-value : goal.returns-in_err-value
returns-in_err-value c = grind (arith, number_so_far)

pub loop-digit-preserved : goal.loop-digit-preserved
loop-digit-preserved c = grind (arith, one_more, digit_at)

pub returns : goal.returns
returns c =
    let all : take c.loop-digit.digit-index c.args.digits.now ≡ c.args.digits.now = take_all _ _ (omega arith) in
    grind arith

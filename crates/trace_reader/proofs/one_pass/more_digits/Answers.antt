use Rattle.std.{proofs.Common.{◌≤◌, arith}}
use Rattle.trace_reader.proofs.DigitsInFront.{digit_more, eight_digits, few_more, front_four}
use Rattle.trace_reader.proofs.one_pass.more_digits.Goals as goal

-- the first four digits are the front of the text
pub returns-then-text-end-clause-spelled : goal.returns-then-text-end-clause-spelled
returns-then-text-end-clause-spelled c = grind (arith, front_four)

pub loop-place-init : goal.loop-place-init
loop-place-init c = grind (arith, front_four)

-- ---- one digit more

pub overflow_mul-value : goal.overflow_mul-value
overflow_mul-value c =
    let few = eight_digits c.loop-place.place c.loop-place.value c.loop-place-test.true c.loop-place.invariant.few in
    record { fits = omega arith }

pub overflow_add-value : goal.overflow_add-value
overflow_add-value c =
    let few = eight_digits c.loop-place.place c.loop-place.value c.loop-place-test.true c.loop-place.invariant.few in
    record { fits = omega arith }

pub returns-then-text-place-clause-spelled : goal.returns-then-text-place-clause-spelled
returns-then-text-place-clause-spelled c = λ some.
    let text = c.args.text.now in
    let place = c.loop-place.place in
    let digit = c.digit_of-digit.result in
    let small : digit ≤ 9 = omega arith in
    let few = eight_digits place c.loop-place.value c.loop-place-test.true c.loop-place.invariant.few in
    grind (arith, digit_more)

pub loop-place-preserved : goal.loop-place-preserved
loop-place-preserved c =
    let text = c.args.text.now in
    let place = c.loop-place.place in
    let digit = c.digit_of-digit.result in
    let small : digit ≤ 9 = omega arith in
    let few = eight_digits place c.loop-place.value c.loop-place-test.true c.loop-place.invariant.few in
    record {
      spelled =
          grind (arith, digit_more);
      some = omega (arith, c.loop-place.invariant.some);
      few = few_more place c.loop-place.value digit c.loop-place.invariant.few (omega arith);
    }

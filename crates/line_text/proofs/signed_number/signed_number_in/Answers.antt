use Rattle.line_text.{proofs.Signs.{signed_of-minus, signed_of-other}, specs.Numbers.{number_of}}
use Rattle.line_text.proofs.signed_number.signed_number_in.Goals as goal

pub returns-in-Some : goal.returns-in-Some
returns-in-Some c =
    let digits = c.in-Some.ensures.cases in
    rw (signed_of-minus c.args.word.now digits.0, ← digits.1) (c.negative.ensures (number_of c.in-Some.digits.now) c.number_in.ensures)

pub returns-in-None : goal.returns-in-None
returns-in-None c =
    rw (signed_of-other c.args.word.now c.in-None.ensures.cases)
    (c.not_negative.ensures (number_of c.args.word.now) c.number_in-in-None.ensures)

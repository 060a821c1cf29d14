use Rattle.std.proofs.{Common.{◌+◌, refl}, lemmas.List.{take_rest}}
use Rattle.trace_reader.proofs.DigitsInFront.{digits_end}
use Rattle.trace_reader.proofs.one_pass.variable.Goals as goal

pub returns-then-count-ne0-clause-spelled : goal.returns-then-count-ne0-clause-spelled
returns-then-count-ne0-clause-spelled c =
    let d = c.one_or_four_digits-v.ensures in
    let some = c.if-count-ne0.true in
    let count = c.one_or_four_digits-v.result.1 in
    rw take_rest (digits_end c.args.text.now count (count + 1) c.one_or_four_digits-v.result.0 c.args.end (d.within some) refl (d.spelled some)
    (d.end some))

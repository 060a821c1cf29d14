use Rattle.std.proofs.{Common.{◌+◌, refl}, lemmas.List.{take_rest}}
use Rattle.trace_reader.proofs.DigitsInFront.{digits_end}
use Rattle.trace_reader.proofs.one_pass.digits.Goals as goal

pub returns : goal.returns
returns c =
    let d = c.more_digits-value.ensures in
    let some = c.if-count-eq0.false in
    let count = c.more_digits-value.result.1 in
    rw take_rest (digits_end c.args.text.now count (count + 1) c.more_digits-value.result.0 c.args.end (d.within some) refl (d.spelled some) (d.end some))

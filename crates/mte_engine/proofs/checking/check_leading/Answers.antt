use Rattle.std.proofs.{Common.{length}, lemmas.Result.{err_from_is_err_and}}
use Rattle.byte_streams.specs.TextLeft.{text_left}
use Rattle.line_text.specs.Lines.{lines}
use Rattle.profile_count.specs.ProfileText.{profile_of_lines}
use Rattle.potential_check.specs.{Certificates.SheetView.{sheet_of}, Leading.{leading_lines, lines_after}, SheetText.{sheet_of_lines}}
use Rattle.potential_check.specs.declared.cost.Cost.TheVariants.{Waste}
use Rattle.mte_engine.{proofs.TwoParts.{first_refused, then_answered}, specs.Check.{IsChecked}, specs.Parts.{profile_part, sheet_part}}
use Rattle.mte_engine.proofs.checking.check_leading.Goals as goal

pub returns-in_err-leading : goal.returns-in_err-leading
returns-in_err-leading c =
    let error = err_from_is_err_and c.from_residual.result c.from_residual.ensures.1 in
    let ls = lines c.args.text.now in
    rw (error.1, error.2)
    (first_refused (sheet_part Waste (sheet_of_lines (leading_lines ls)))
    (profile_part (length (leading_lines ls)) (profile_of_lines (lines_after ls))) (IsChecked c.args.options) c.in_err-leading.field-0.0
    c.in_err-leading.ensures.sheet)

pub returns : goal.returns
returns c =
    let leading = c.in_ok-leading.ensures in
    let ls = lines c.args.text.now in
    then_answered (sheet_part Waste (sheet_of_lines (leading_lines ls)))
    (profile_part (length (leading_lines ls)) (profile_of_lines (lines_after ls))) (IsChecked c.args.options) text_left
    (sheet_of c.in_ok-leading.leading.sheet) leading.sheet c.check_profile.result
    (rw (leading.lines.0, leading.rest) at c.check_profile.ensures)

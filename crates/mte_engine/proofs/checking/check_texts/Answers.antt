use Rattle.std.proofs.{Common.{List, ℕ, ◌+◌, length, Result}, lemmas.Result.{err_from_is_err_and}}
use Rattle.byte_streams.specs.TextLeft.{text_left}
use Rattle.line_text.specs.Lines.{lines}
use Rattle.profile_count.specs.ProfileText.{profile_of}
use Rattle.potential_check.specs.{Certificates.SheetView.{sheet_of}, Leading.{leading_lines, lines_after}, SheetText.{sheet_of_lines}}
use Rattle.potential_check.specs.declared.cost.Cost.TheVariants.{Waste}
use Rattle.tuner_theory.specs.Sheets.{Sheet}
use Rattle.mte_engine.{proofs.TwoParts.{first_refused, others_refused, part_alone, part_refused, then_answered}, specs.Check.{IsChecked}}
use Rattle.mte_engine.specs.{Parts.{profile_part, sheet_part, whole_sheet_part}, declared.fault.InputFault.{InputFault}}
use Rattle.mte_engine.specs.declared.fault.InputFault.TheVariants.{BadSheet}
use Rattle.mte_engine.proofs.checking.check_texts.Goals as goal

abbrev part : List (List ℕ) → Result Sheet InputFault
part ls = sheet_part Waste (sheet_of_lines (leading_lines ls))

abbrev whole : List (List ℕ) → Result Sheet InputFault
whole ls = whole_sheet_part Waste (leading_lines ls) (lines_after ls)

pub returns-in_err-leading : goal.returns-in_err-leading
returns-in_err-leading c =
    let error = err_from_is_err_and c.from_residual.result c.from_residual.ensures.1 in
    let ls = lines c.args.sheet.now in
    rw (error.1, error.2)
    (first_refused (whole ls) (profile_part 0 (profile_of c.args.text.now)) (IsChecked c.args.options) c.in_err-leading.field-0.0
    (part_refused (part ls) (BadSheet (length (leading_lines ls) + 1)) (lines_after ls) c.in_err-leading.field-0.0
    c.in_err-leading.ensures.sheet))

pub returns-in_err-end_text : goal.returns-in_err-end_text
returns-in_err-end_text c =
    let error = err_from_is_err_and c.from_residual-in_err-end_text.result c.from_residual-in_err-end_text.ensures.1 in
    let ls = lines c.args.sheet.now in
    let leading = c.in_ok-leading.ensures in
    rw (error.1, error.2)
    (first_refused (whole ls) (profile_part 0 (profile_of c.args.text.now)) (IsChecked c.args.options) c.in_err-end_text.field-0.0
    (others_refused (part ls) (BadSheet (length (leading_lines ls) + 1)) (sheet_of c.in_ok-leading.leading.sheet) (lines_after ls)
    c.in_err-end_text.field-0.0 leading.sheet (rw (leading.lines.0, leading.rest) at c.in_err-end_text.ensures)))

pub returns : goal.returns
returns c =
    let ls = lines c.args.sheet.now in
    let leading = c.in_ok-leading.ensures in
    then_answered (whole ls) (profile_part 0 (profile_of c.args.text.now)) (IsChecked c.args.options) text_left
    (sheet_of c.in_ok-leading.leading.sheet)
    (part_alone (part ls) (BadSheet (length (leading_lines ls) + 1)) (sheet_of c.in_ok-leading.leading.sheet) (lines_after ls)
    leading.sheet (rw leading.rest at c.in_ok-end_text.ensures)) c.check_profile.result c.check_profile.ensures

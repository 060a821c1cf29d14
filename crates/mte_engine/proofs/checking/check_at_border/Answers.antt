use Rattle.std.proofs.{Common.{List, ℕ, ◌+◌, ◌++◌, drop, length, take, Result}, lemmas.Result.{err_from_is_err_and}}
use Rattle.byte_streams.specs.TextLeft.{text_left}
use Rattle.line_text.specs.Lines.{lines}
use Rattle.profile_count.specs.ProfileText.{profile_of_lines}
use Rattle.potential_check.specs.{Certificates.SheetView.{sheet_of}, Leading.{leading_lines, lines_after}, SheetText.{sheet_of_lines}}
use Rattle.potential_check.specs.declared.cost.Cost.TheVariants.{Waste}
use Rattle.tuner_theory.specs.{Profiles.{Profile as Counted}, Sheets.{Sheet}}
use Rattle.mte_engine.{proofs.TwoParts.{first_refused, others_refused, part_alone, part_refused, then_answered}, specs.Check.{IsChecked}}
use Rattle.mte_engine.specs.{Parts.{lacking, profile_part, sheet_part, whole_sheet_part}, declared.fault.InputFault.{InputFault}}
use Rattle.mte_engine.specs.declared.fault.InputFault.TheVariants.{BadSheet}
use Rattle.mte_engine.proofs.checking.check_at_border.Goals as goal

abbrev part : ℕ → List (List ℕ) → Result Sheet InputFault
part border ls = sheet_part Waste (sheet_of_lines (leading_lines (take border ls)))

abbrev others : ℕ → List (List ℕ) → List (List ℕ)
others border ls = lines_after (take border ls) ++ lacking border ls

abbrev whole : ℕ → List (List ℕ) → Result Sheet InputFault
whole border ls = whole_sheet_part Waste (leading_lines (take border ls)) (others border ls)

abbrev profile : ℕ → List (List ℕ) → Result Counted InputFault
profile border ls = profile_part border (profile_of_lines (drop border ls))

pub returns-in_err-leading : goal.returns-in_err-leading
returns-in_err-leading c =
    let error = err_from_is_err_and c.from_residual.result c.from_residual.ensures.1 in
    let border = c.args.options.first_lines in
    let ls = lines c.args.text.now in
    rw (error.1, error.2)
    (first_refused (whole border ls) (profile border ls) (IsChecked c.args.options) c.in_err-leading.field-0.0
    (part_refused (part border ls) (BadSheet (length (leading_lines (take border ls)) + 1)) (others border ls) c.in_err-leading.field-0.0
    (rw c.cut_after_lines-cut.ensures.first at c.in_err-leading.ensures.sheet)))

pub returns-in_err-end_first : goal.returns-in_err-end_first
returns-in_err-end_first c =
    let error = err_from_is_err_and c.from_residual-in_err-end_first.result c.from_residual-in_err-end_first.ensures.1 in
    let border = c.args.options.first_lines in
    let ls = lines c.args.text.now in
    let cut = c.cut_after_lines-cut.ensures in
    let leading = c.in_ok-leading.ensures in
    rw (error.1, error.2)
    (first_refused (whole border ls) (profile border ls) (IsChecked c.args.options) c.in_err-end_first.field-0.0
    (others_refused (part border ls) (BadSheet (length (leading_lines (take border ls)) + 1)) (sheet_of c.in_ok-leading.leading.sheet)
    (others border ls) c.in_err-end_first.field-0.0 (rw cut.first at leading.sheet)
    (rw (leading.lines.0, leading.rest, cut.first) at c.in_err-end_first.ensures ls border cut.lacks)))

pub returns : goal.returns
returns c =
    let border = c.args.options.first_lines in
    let ls = lines c.args.text.now in
    let cut = c.cut_after_lines-cut.ensures in
    let leading = c.in_ok-leading.ensures in
    then_answered (whole border ls) (profile border ls) (IsChecked c.args.options) text_left (sheet_of c.in_ok-leading.leading.sheet)
    (part_alone (part border ls) (BadSheet (length (leading_lines (take border ls)) + 1)) (sheet_of c.in_ok-leading.leading.sheet)
    (others border ls) (rw cut.first at leading.sheet) (rw (leading.rest, cut.first) at c.in_ok-end_first.ensures ls border cut.lacks))
    c.check_profile.result (rw (cut.rest, c.line_count.ensures.count) at c.check_profile.ensures)

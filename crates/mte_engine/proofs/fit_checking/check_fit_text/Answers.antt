use Rattle.std.proofs.{Common.{List, ℕ, ◌+◌, drop, take, length, sym, ◌∙◌, Result}, lemmas.Result.{err_from_is_err_and}}
use Rattle.byte_streams.specs.TextLeft.{text_left}
use Rattle.history_count.specs.{Histories.{History}, HistoryText.{history_of_lines}, Timelines.TimelineText.{timeline_of_lines}}
use Rattle.line_text.specs.Lines.{lines}
use Rattle.potential_check.specs.{Certificates.SheetView.{sheet_of}, Leading.{leading_lines, lines_after}, SheetText.{fit_of_lines}}
use Rattle.potential_check.specs.declared.cost.Cost.TheVariants.{Footprint}
use Rattle.tuner_theory.specs.{Sheets.{Sheet}, declared.size_event.SizeEvent.{SizeEvent}}
use Rattle.mte_engine.{proofs.TwoParts.{either_refused, first_refused, other_answers, then_answered, one_answers}, specs.Outcome.{Answer}}
use Rattle.mte_engine.specs.{CheckFit.{CheckFitAnswers, IsFitChecked}, Parts.{both_parts, history_part, sheet_part, timeline_part}}
use Rattle.mte_engine.specs.CheckFitOver.{CheckFitOverAnswers, IsCheckedOver, begins_moments, whole_moments_part}
use Rattle.mte_engine.specs.declared.fault.InputFault.{InputFault}
use Rattle.tool_call.specs.declared.options.Options.{Options}
use Rattle.mte_engine.proofs.fit_checking.check_fit_text.Goals as goal

abbrev over : Options → Sheet × (List ℕ × List SizeEvent) → Answer → Type 0
over options parts answer = IsCheckedOver options parts.0 parts.1.0 parts.1.1 answer

abbrev checked : Options → Sheet × History → Answer → Type 0
checked options parts answer = IsFitChecked options parts.0 parts.1 answer

abbrev part : List (List ℕ) → Result Sheet InputFault
part ls = sheet_part Footprint (fit_of_lines (leading_lines ls))

abbrev moments_and_timeline : List (List ℕ) → Result (List ℕ × List SizeEvent) InputFault
moments_and_timeline ls =
    both_parts (whole_moments_part (length (leading_lines ls)) (take 1 (lines_after ls)))
    (timeline_part (length (leading_lines ls) + 1) (timeline_of_lines (drop 1 (lines_after ls))))

abbrev history : List (List ℕ) → Result History InputFault
history ls = history_part (length (leading_lines ls)) (history_of_lines (lines_after ls))

pub returns-in_err-leading : goal.returns-in_err-leading
returns-in_err-leading c =
    let error = err_from_is_err_and c.from_residual.result c.from_residual.ensures.1 in
    let fault = c.in_err-leading.field-0.0 in
    let text = c.args.text.now in
    let ls = lines text in
    rw (error.1, error.2)
    (either_refused (CheckFitOverAnswers c.args.options text) (CheckFitAnswers c.args.options text) (begins_moments (lines_after ls)) fault
    (first_refused (part ls) (moments_and_timeline ls) (over c.args.options) fault c.in_err-leading.ensures.sheet)
    (first_refused (part ls) (history ls) (checked c.args.options) fault c.in_err-leading.ensures.sheet))

pub returns-then-begins_moments : goal.returns-then-begins_moments
returns-then-begins_moments c =
    let leading = c.in_ok-leading.ensures in
    let text = c.args.text.now in
    let ls = lines text in
    let begins = sym c.begins_moments.ensures ∙ c.if-begins_moments.true in
    one_answers text_left (CheckFitOverAnswers c.args.options text) (CheckFitAnswers c.args.options text) (begins_moments (lines_after ls)) (rw leading.rest at begins)
    c.check_after_moments.result
    (then_answered (part ls) (moments_and_timeline ls) (over c.args.options) text_left (sheet_of c.in_ok-leading.leading.sheet) leading.sheet
    c.check_after_moments.result (rw (leading.lines.0, leading.rest) at c.check_after_moments.ensures))

pub returns : goal.returns
returns c =
    let leading = c.in_ok-leading.ensures in
    let text = c.args.text.now in
    let ls = lines text in
    let begins = sym c.begins_moments.ensures ∙ c.if-begins_moments.false in
    other_answers text_left (CheckFitOverAnswers c.args.options text) (CheckFitAnswers c.args.options text) (begins_moments (lines_after ls)) (rw leading.rest at begins)
    c.check_history.result
    (then_answered (part ls) (history ls) (checked c.args.options) text_left (sheet_of c.in_ok-leading.leading.sheet) leading.sheet c.check_history.result
    (rw (leading.lines.0, leading.rest) at c.check_history.ensures))

use Rattle.std.proofs.{Common.{List, ℕ, ◌+◌, length, Err, sym, ◌∙◌, Result}, lemmas.Result.{err_from_is_err_and}}
use Rattle.byte_streams.specs.TextLeft.{text_left}
use Rattle.history_count.specs.{Histories.{History}, HistoryText.{history_of}, Timelines.TimelineText.{timeline_of}}
use Rattle.line_text.specs.Lines.{lines}
use Rattle.potential_check.specs.{Certificates.SheetView.{sheet_of}, Leading.{leading_lines, lines_after}, SheetText.{fit_of_lines}}
use Rattle.potential_check.specs.declared.cost.Cost.TheVariants.{Footprint}
use Rattle.tuner_theory.specs.{Sheets.{Sheet}, declared.size_event.SizeEvent.{SizeEvent}}
use Rattle.mte_engine.proofs.TwoParts.{either_refused, first_refused, other_answers, others_refused, part_alone, part_refused}
use Rattle.mte_engine.{proofs.TwoParts.{then_answered, one_answers}, specs.CheckFit.{ChecksFitParts, IsFitChecked}, specs.Outcome.{Answer}}
use Rattle.mte_engine.specs.CheckFitOver.{ChecksOverParts, IsCheckedOver, begins_moments, whole_moments_part}
use Rattle.mte_engine.specs.Parts.{both_parts, history_part, sheet_part, timeline_part, whole_sheet_part}
use Rattle.mte_engine.specs.declared.fault.{InputFault.{InputFault}, InputFault.TheVariants.{BadFit}}
use Rattle.tool_call.specs.declared.options.Options.{Options}
use Rattle.mte_engine.proofs.fit_checking.check_fit_texts.Goals as goal

abbrev over : Options → Sheet × (List ℕ × List SizeEvent) → Answer → Type 0
over options parts answer = IsCheckedOver options parts.0 parts.1.0 parts.1.1 answer

abbrev checked : Options → Sheet × History → Answer → Type 0
checked options parts answer = IsFitChecked options parts.0 parts.1 answer

abbrev part : List (List ℕ) → Result Sheet InputFault
part ls = sheet_part Footprint (fit_of_lines (leading_lines ls))

abbrev whole : List (List ℕ) → Result Sheet InputFault
whole ls = whole_sheet_part Footprint (leading_lines ls) (lines_after ls)

abbrev moments_and_timeline : List (List ℕ) → List ℕ → Result (List ℕ × List SizeEvent) InputFault
moments_and_timeline ls text =
    both_parts (whole_moments_part (length (leading_lines ls)) (lines_after ls)) (timeline_part 0 (timeline_of text))

abbrev history : List ℕ → Result History InputFault
history text = history_part 0 (history_of text)

abbrev by_moments : Options → List (List ℕ) → List ℕ → Result Answer InputFault → Type 0
by_moments options ls text = ChecksOverParts options (leading_lines ls) (lines_after ls) 0 (lines text)

abbrev by_snapshots : Options → List (List ℕ) → List ℕ → Result Answer InputFault → Type 0
by_snapshots options ls text = ChecksFitParts options (leading_lines ls) (lines_after ls) 0 (lines text)

pub returns-in_err-leading : goal.returns-in_err-leading
returns-in_err-leading c = λ text taken.
    let error = err_from_is_err_and c.from_residual.result c.from_residual.ensures.1 in
    let fault = c.in_err-leading.field-0.0 in
    let ls = lines c.args.fit.now in
    rw (error.1, error.2)
    (either_refused (by_moments c.args.options ls text) (by_snapshots c.args.options ls text) (begins_moments (lines_after ls)) fault
    (first_refused (part ls) (moments_and_timeline ls text) (over c.args.options) fault c.in_err-leading.ensures.sheet)
    (first_refused (whole ls) (history text) (checked c.args.options) fault
    (part_refused (part ls) (BadFit (length (leading_lines ls) + 1)) (lines_after ls) fault c.in_err-leading.ensures.sheet)))

pub returns-then-begins_moments : goal.returns-then-begins_moments
returns-then-begins_moments c = λ text taken.
    let leading = c.in_ok-leading.ensures in
    let ls = lines c.args.fit.now in
    let begins = sym c.begins_moments.ensures ∙ c.if-begins_moments.true in
    one_answers text_left (by_moments c.args.options ls text) (by_snapshots c.args.options ls text) (begins_moments (lines_after ls)) (rw leading.rest at begins)
    c.check_beside_moments.result
    (then_answered (part ls) (moments_and_timeline ls text) (over c.args.options) text_left (sheet_of c.in_ok-leading.leading.sheet) leading.sheet
    c.check_beside_moments.result (rw (leading.lines.0, leading.rest) at c.check_beside_moments.ensures text taken))

pub returns-in_err-end_text : goal.returns-in_err-end_text
returns-in_err-end_text c = λ text taken.
    let error = err_from_is_err_and c.from_residual-in_err-end_text.result c.from_residual-in_err-end_text.ensures.1 in
    let leading = c.in_ok-leading.ensures in
    let ls = lines c.args.fit.now in
    let fault = c.in_err-end_text.field-0.0 in
    let begins = sym c.begins_moments.ensures ∙ c.if-begins_moments.false in
    rw (error.1, error.2)
    (other_answers text_left (by_moments c.args.options ls text) (by_snapshots c.args.options ls text) (begins_moments (lines_after ls)) (rw leading.rest at begins)
    (Err fault)
    (first_refused (whole ls) (history text) (checked c.args.options) fault
    (others_refused (part ls) (BadFit (length (leading_lines ls) + 1)) (sheet_of c.in_ok-leading.leading.sheet) (lines_after ls) fault
    leading.sheet (rw (leading.lines.0, leading.rest) at c.in_err-end_text.ensures))))

pub returns : goal.returns
returns c = λ text taken.
    let leading = c.in_ok-leading.ensures in
    let ls = lines c.args.fit.now in
    let fit = sheet_of c.in_ok-leading.leading.sheet in
    let begins = sym c.begins_moments.ensures ∙ c.if-begins_moments.false in
    other_answers text_left (by_moments c.args.options ls text) (by_snapshots c.args.options ls text) (begins_moments (lines_after ls)) (rw leading.rest at begins)
    c.check_beside_history.result
    (then_answered (whole ls) (history text) (checked c.args.options) text_left fit
    (part_alone (part ls) (BadFit (length (leading_lines ls) + 1)) fit (lines_after ls) leading.sheet
    (rw leading.rest at c.in_ok-end_text.ensures)) c.check_beside_history.result (c.check_beside_history.ensures text taken))

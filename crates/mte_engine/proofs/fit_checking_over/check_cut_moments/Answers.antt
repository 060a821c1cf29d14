use Rattle.std.proofs.{Common.{◌+◌, ◌++◌, List, ℕ}, lemmas.Result.{err_from_is_err_and}}
use Rattle.byte_streams.specs.TextLeft.{text_left}
use Rattle.history_count.specs.Timelines.TimelineText.{timeline_of_lines}
use Rattle.line_text.specs.Lines.{lines}
use Rattle.potential_check.specs.Certificates.SheetView.{sheet_of}
use Rattle.tuner_theory.specs.{Sheets.{Sheet}, declared.size_event.SizeEvent.{SizeEvent}}
use Rattle.mte_engine.proofs.{Borders.{moments_lacking, moments_read, moments_refused}, TwoParts.{first_refused, then_answered}}
use Rattle.mte_engine.specs.CheckFitOver.{IsCheckedOver, whole_moments_part}
use Rattle.mte_engine.specs.{Outcome.{Answer}, Parts.{lacking, timeline_part}}
use Rattle.tool_call.specs.declared.options.Options.{Options}
use Rattle.mte_engine.proofs.fit_checking_over.check_cut_moments.Goals as goal

abbrev says : Options → Sheet → List ℕ × List SizeEvent → Answer → Type 0
says options fit parts answer = IsCheckedOver options fit parts.0 parts.1 answer

pub returns-in_err-numbers : goal.returns-in_err-numbers
returns-in_err-numbers c = λ ls border lacks.
    let error = err_from_is_err_and c.from_residual.result c.from_residual.ensures.1 in
    let fit = sheet_of c.args.fit.now in
    rw (error.1, error.2)
    (first_refused (whole_moments_part c.args.before (lines c.args.rest.now ++ lacking border ls))
    (timeline_part c.args.options.first_lines (timeline_of_lines (lines c.args.cut.rest.now))) (says c.args.options fit)
    c.in_err-numbers.field-0.0
    (moments_refused c.args.before border ls (lines c.args.rest.now) c.in_err-numbers.field-0.0 c.in_err-numbers.ensures))

pub returns-in_err-end_first : goal.returns-in_err-end_first
returns-in_err-end_first c = λ ls border lacks.
    let error = err_from_is_err_and c.from_residual-in_err-end_first.result c.from_residual-in_err-end_first.ensures.1 in
    let fit = sheet_of c.args.fit.now in
    rw (error.1, error.2)
    (first_refused (whole_moments_part c.args.before (lines c.args.rest.now ++ lacking border ls))
    (timeline_part c.args.options.first_lines (timeline_of_lines (lines c.args.cut.rest.now))) (says c.args.options fit)
    c.in_err-end_first.field-0.0
    (moments_lacking c.args.before border ls (lines c.args.rest.now) c.in_ok-numbers.numbers.items c.in_err-end_first.field-0.0
    c.in_ok-numbers.ensures (c.in_err-end_first.ensures ls border lacks)))

pub returns : goal.returns
returns c = λ ls border lacks.
    let fit = sheet_of c.args.fit.now in
    then_answered (whole_moments_part c.args.before (lines c.args.rest.now ++ lacking border ls))
    (timeline_part c.args.options.first_lines (timeline_of_lines (lines c.args.cut.rest.now))) (says c.args.options fit) text_left
    c.in_ok-numbers.numbers.items
    (moments_read c.args.before border ls (lines c.args.rest.now) c.in_ok-numbers.numbers.items c.in_ok-numbers.ensures
    (c.in_ok-end_first.ensures ls border lacks)) c.check_timeline.result (rw (c.deref.ensures.value, c.line_count.ensures.count) at c.check_timeline.ensures)

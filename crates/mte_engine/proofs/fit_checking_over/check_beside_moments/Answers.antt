use Rattle.std.proofs.{Common.{List, ℕ}, lemmas.Result.{err_from_is_err_and}}
use Rattle.byte_streams.specs.TextLeft.{text_left}
use Rattle.history_count.specs.Timelines.TimelineText.{timeline_of}
use Rattle.line_text.specs.Lines.{lines}
use Rattle.potential_check.specs.Certificates.SheetView.{sheet_of}
use Rattle.tuner_theory.specs.{Sheets.{Sheet}, declared.size_event.SizeEvent.{SizeEvent}}
use Rattle.mte_engine.{proofs.TwoParts.{first_refused, then_answered}, specs.CheckFitOver.{IsCheckedOver, whole_moments_part}}
use Rattle.mte_engine.specs.{Outcome.{Answer}, Parts.{timeline_part}}
use Rattle.tool_call.specs.declared.options.Options.{Options}
use Rattle.mte_engine.proofs.fit_checking_over.check_beside_moments.Goals as goal

abbrev says : Options → Sheet → List ℕ × List SizeEvent → Answer → Type 0
says options fit parts answer = IsCheckedOver options fit parts.0 parts.1 answer

pub returns-in_err-numbers : goal.returns-in_err-numbers
returns-in_err-numbers c = λ text taken.
    let error = err_from_is_err_and c.from_residual.result c.from_residual.ensures.1 in
    rw (error.1, error.2)
    (first_refused (whole_moments_part c.args.before (lines c.args.rest.now)) (timeline_part 0 (timeline_of text))
    (says c.args.options (sheet_of c.args.fit.now)) c.in_err-numbers.field-0.0 c.in_err-numbers.ensures)

pub returns : goal.returns
returns c = λ text taken.
    then_answered (whole_moments_part c.args.before (lines c.args.rest.now)) (timeline_part 0 (timeline_of text))
    (says c.args.options (sheet_of c.args.fit.now)) text_left c.in_ok-numbers.numbers.items c.in_ok-numbers.ensures c.check_beside_timeline.result
    (rw c.deref.ensures.value at c.check_beside_timeline.ensures text taken)

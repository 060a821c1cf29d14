use Rattle.std.proofs.{Common.{◌≡◌, ◌+◌, ◌∷◌, List, ℕ, sym, ◌∙◌}, lemmas.Result.{err_from_is_err_and}}
use Rattle.byte_streams.specs.TextLeft.{text_left}
use Rattle.history_count.specs.Timelines.TimelineText.{timeline_of_lines}
use Rattle.line_text.specs.Lines.{lines}
use Rattle.potential_check.specs.{Certificates.SheetView.{sheet_of}, Footprints.Timelines.MomentsLine.{moments_of}}
use Rattle.tuner_theory.specs.{Sheets.{Sheet}, declared.size_event.SizeEvent.{SizeEvent}}
use Rattle.mte_engine.{proofs.TwoParts.{first_refused, then_answered}, specs.CheckFitOver.{IsCheckedOver, moments_part}}
use Rattle.mte_engine.specs.{Outcome.{Answer}, Parts.{timeline_part}}
use Rattle.tool_call.specs.declared.options.Options.{Options}
use Rattle.mte_engine.proofs.fit_checking_over.check_after_moments.Goals as goal

abbrev says : Options → Sheet → List ℕ × List SizeEvent → Answer → Type 0
says options fit parts answer = IsCheckedOver options fit parts.0 parts.1 answer

pub returns-in_err-numbers : goal.returns-in_err-numbers
returns-in_err-numbers c =
    let error = err_from_is_err_and c.from_residual.result c.from_residual.ensures.1 in
    let number = c.args.before + 1 in
    let line = c.in-Some.line.now in
    let parts : lines c.args.text.now ≡ line ∷ c.next.new.self = sym c.lines_in-lines.ensures ∙ c.in-Some.ensures.steps in
    rw (error.1, error.2, parts)
    (first_refused (moments_part number (moments_of line)) (timeline_part number (timeline_of_lines c.next.new.self))
    (says c.args.options (sheet_of c.args.fit.now)) c.in_err-numbers.field-0.0 c.in_err-numbers.ensures)

pub returns : goal.returns
returns c =
    let number = c.args.before + 1 in
    let line = c.in-Some.line.now in
    let parts : lines c.args.text.now ≡ line ∷ c.next.new.self = sym c.lines_in-lines.ensures ∙ c.in-Some.ensures.steps in
    rw parts
    (then_answered (moments_part number (moments_of line)) (timeline_part number (timeline_of_lines c.next.new.self))
    (says c.args.options (sheet_of c.args.fit.now)) text_left c.in_ok-numbers.numbers.items c.in_ok-numbers.ensures c.check_timeline.result
    (rw (c.deref.ensures.value, c.rest.ensures) at c.check_timeline.ensures))

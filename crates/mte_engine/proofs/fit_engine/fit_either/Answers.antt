use Rattle.std.proofs.{Common.{Ok}, lemmas.Result.{err_from_is_err_and}}
use Rattle.line_text.specs.Lines.{lines}
use Rattle.mte_engine.{proofs.CountsInput.{counts_refused}, proofs.TwoParts.{one_answers, other_answers}, specs.Fit.{FitAnswers}}
use Rattle.mte_engine.specs.{FitOver.{FitOverAnswers}, SheetLeft.{sheet_left}, Timelines.{begins_timeline}}
use Rattle.mte_engine.proofs.fit_engine.fit_either.Goals as goal

pub returns-in_err-timeline : goal.returns-in_err-timeline
returns-in_err-timeline c = λ bytes taken.
    let a = c.args in
    let error = err_from_is_err_and c.from_residual.result c.from_residual.ensures.1 in
    rw (error.1, error.2)
    (counts_refused (FitOverAnswers a.limit a.step a.forced bytes) (FitAnswers a.limit a.step a.forced bytes) 0 bytes
    c.in_err-timeline.field-0.0 (c.in_err-timeline.ensures bytes taken) (λ fault is. is))

pub returns-in-Text : goal.returns-in-Text
returns-in-Text c = λ bytes taken.
    let a = c.args in
    let counts = rw c.in-Text.is at (c.in_ok-timeline.ensures bytes taken) in
    other_answers sheet_left (FitOverAnswers a.limit a.step a.forced bytes) (FitAnswers a.limit a.step a.forced bytes)
    (begins_timeline (lines bytes)) counts.0 c.fit_text.result (rw (c.deref.ensures.value, counts.1) at c.fit_text.ensures)

pub returns-in_ok-fit_over_timeline-in-Timeline : goal.returns-in_ok-fit_over_timeline-in-Timeline
returns-in_ok-fit_over_timeline-in-Timeline c = λ bytes taken.
    let a = c.args in
    let counts = rw c.in-Timeline.is at (c.in_ok-timeline.ensures bytes taken) in
    one_answers sheet_left (FitOverAnswers a.limit a.step a.forced bytes) (FitAnswers a.limit a.step a.forced bytes)
    (begins_timeline (lines bytes)) counts.0 (Ok c.in_ok-fit_over_timeline-in-Timeline.field-0)
    (c.in-Timeline.timeline, counts.1, c.in_ok-fit_over_timeline-in-Timeline.ensures)

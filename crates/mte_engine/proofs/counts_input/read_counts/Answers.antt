use Rattle.std.proofs.{Common.{List, sym, ◌∙◌, Err, Result}, lemmas.Result.{err_from_is_err_and}}
use Rattle.tuner_theory.specs.declared.size_event.SizeEvent.{SizeEvent}
use Rattle.mte_engine.{proofs.CountsInput.{counts_failed, text_kept, timeline_ended}, specs.declared.fault.AnswerError.{AnswerError}}
use Rattle.mte_engine.proofs.counts_input.read_counts.Goals as goal

pub returns-in_err-end_timeline : goal.returns-in_err-end_timeline
returns-in_err-end_timeline c = λ bytes taken.
    let i = c.args.input in
    let error = err_from_is_err_and c.from_residual.result c.from_residual.ensures.1 in
    let refused : Result (List SizeEvent) AnswerError = Err c.in_err-end_timeline.field-0.0 in
    let ended = timeline_ended i.is_timeline i.reader i.text.text.items bytes c.args.before refused c.if-is_timeline.true taken
    c.in_err-end_timeline.ensures in
    rw (error.1, error.2) (counts_failed c.args.before bytes c.in_err-end_timeline.field-0.0 ended.0 ended.1)

pub returns : goal.returns
returns c = λ bytes taken.
    let i = c.args.input in
    let same = text_kept i.is_timeline i.reader i.text.text.items bytes c.if-is_timeline.false taken in
    let begins = sym c.begins_timeline.ensures ∙ c.if-begins_timeline.false in
    (rw (c.deref.ensures.value, same) at begins, same)

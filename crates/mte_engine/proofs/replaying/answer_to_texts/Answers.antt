use Rattle.std.proofs.lemmas.Result.{err_from_is_err_and}
use Rattle.line_text.specs.Lines.{lines}
use Rattle.mte_engine.{proofs.LineAndTrace.{class_refused, class_replayed}, specs.Replay.{replay_answer_on}, specs.ReportLeft.{report_left}}
use Rattle.mte_engine.proofs.replaying.answer_to_texts.Goals as goal

pub returns-in_err-table : goal.returns-in_err-table
unfolding replay_answer_on
returns-in_err-table c = λ trace keeps.
    let error = err_from_is_err_and c.from_residual.result c.from_residual.ensures.1 in
    rw (error.1, error.2)
    (class_refused c.args.config (lines c.args.class.now) 0 (lines trace) c.in_err-table.field-0.0 c.in_err-table.ensures)

pub returns : goal.returns
unfolding replay_answer_on
returns c = λ trace keeps.
    class_replayed c.args.config (lines c.args.class.now) 0 (lines trace) report_left c.in_ok-table.table c.in_ok-table.ensures
    c.report_over.result (c.report_over.ensures trace keeps)

use Rattle.std.proofs.lemmas.Result.{err_from_is_err_and}
use Rattle.mte_engine.{proofs.LineAndTrace.{line_refused, line_replayed}, specs.ReportLeft.{report_left}}
use Rattle.mte_engine.proofs.replaying.answer_to_parts.Goals as goal

pub returns-in_err-table : goal.returns-in_err-table
returns-in_err-table c = λ bytes trace is.
    let error = err_from_is_err_and c.from_residual.result c.from_residual.ensures.1 in
    rw (error.1, error.2)
    (line_refused c.args.config bytes c.args.line.now trace c.args.reader is c.in_err-table.field-0.0 c.in_err-table.ensures)

pub returns : goal.returns
returns c = λ bytes trace is.
    line_replayed c.args.config bytes c.args.line.now trace c.args.reader is report_left c.in_ok-table.table c.in_ok-table.ensures
    c.report_over.result (c.report_over.ensures trace is.keeps)

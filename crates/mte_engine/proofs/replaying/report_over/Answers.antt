use Rattle.std.proofs.{Common.{ap, ◌∙◌, List, ℕ, ◌++◌}, lemmas.Result.{err_from_is_err_and}}
use Rattle.mte_engine.{proofs.LineAndTrace.{report_written, trace_is_refused}, specs.Replay.{report_on}, specs.ReportLeft.{report_left}}
use Rattle.mte_engine.proofs.replaying.report_over.Goals as goal

pub returns-in_err-end : goal.returns-in_err-end
returns-in_err-end c = λ trace keeps.
    let error = err_from_is_err_and c.from_residual.result c.from_residual.ensures.1 in
    rw (error.1, error.2)
    (trace_is_refused c.args.config c.args.table.now c.args.before trace c.args.reader keeps c.in_err-end.field-0.0
    c.in_err-end.ensures.ended)

pub returns : goal.returns
returns c = λ trace keeps.
    report_written c.args.config c.args.table.now c.args.before trace c.args.reader keeps c.end.new.reader
    (report_left c.in_ok-report.report) c.in_ok-end.ensures.ended c.in_ok-end.ensures.events
    (c.in_ok-report.ensures ∙ ap (λ (t : List ℕ). t ++ report_on c.args.config c.args.table.now c.end.new.reader.events)
    c.new.ensures.items)

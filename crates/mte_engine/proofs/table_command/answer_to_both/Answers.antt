use Rattle.std.proofs.lemmas.Result.{err_from_is_err_and}
use Rattle.byte_streams.specs.TextLeft.{text_left}
use Rattle.line_text.specs.Lines.{lines}
use Rattle.mte_engine.{proofs.TableParts.{class_refused, table_given}, specs.TableCommands.{answers_after}}
use Rattle.mte_engine.proofs.table_command.answer_to_both.Goals as goal

pub returns-in_err-table : goal.returns-in_err-table
returns-in_err-table c = λ text taken.
    let error = err_from_is_err_and c.from_residual.result c.from_residual.ensures.1 in
    rw (error.1, error.2)
    (class_refused (answers_after c.args.command c.args.options) (lines c.args.class.now) 0 (lines text) c.in_err-table.field-0.0
    c.in_err-table.ensures)

pub returns : goal.returns
returns c = λ text taken.
    table_given (answers_after c.args.command c.args.options) (lines c.args.class.now) 0 (lines text) text_left c.in_ok-table.table
    c.in_ok-table.ensures c.answer_to_counts.result (c.answer_to_counts.ensures text taken)

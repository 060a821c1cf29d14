use Rattle.std.proofs.lemmas.Result.{err_from_is_err_and}
use Rattle.byte_streams.specs.TextLeft.{text_left}
use Rattle.line_text.specs.Lines.{lines}
use Rattle.mte_engine.{proofs.TableParts.{class_refused, table_given}, specs.Score.{score_after}}
use Rattle.mte_engine.proofs.scoring.score_of_texts.Goals as goal

pub returns-in_err-table : goal.returns-in_err-table
returns-in_err-table c =
    let error = err_from_is_err_and c.from_residual.result c.from_residual.ensures.1 in
    rw (error.1, error.2)
    (class_refused (score_after c.args.options) (lines c.args.class.now) 0 (lines c.args.text.now) c.in_err-table.field-0.0
    c.in_err-table.ensures)

pub returns : goal.returns
returns c =
    table_given (score_after c.args.options) (lines c.args.class.now) 0 (lines c.args.text.now) text_left c.in_ok-table.table
    c.in_ok-table.ensures c.score_of_counts.result c.score_of_counts.ensures

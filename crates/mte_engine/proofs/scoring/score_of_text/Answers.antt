use Rattle.std.proofs.{Common.{ap, drop, refl, sym, ◌∙◌}, lemmas.Result.{err_from_is_err_and}}
use Rattle.byte_streams.specs.TextLeft.{text_left}
use Rattle.mte_engine.{proofs.TableParts.{line_given, line_refused, no_line}, specs.Score.{score_after}}
use Rattle.mte_engine.proofs.scoring.score_of_text.Goals as goal

pub returns-in_default : goal.returns-in_default
returns-in_default c = no_line (score_after c.args.options) c.args.text.now (sym c.lines_in-lines.ensures ∙ c.in_default.ensures.steps.0)

pub returns-in_err-table : goal.returns-in_err-table
returns-in_err-table c =
    let error = err_from_is_err_and c.from_residual.result c.from_residual.ensures.1 in
    let parts = sym c.lines_in-lines.ensures ∙ c.in-Some.ensures.steps in
    rw (error.1, error.2)
    (line_refused (score_after c.args.options) c.args.text.now c.in-Some.line.now (rw parts refl) c.in_err-table.field-0.0
    c.in_err-table.ensures)

pub returns : goal.returns
returns c =
    let parts = sym c.lines_in-lines.ensures ∙ c.in-Some.ensures.steps in
    line_given (score_after c.args.options) c.args.text.now c.in-Some.line.now (rw parts refl) text_left c.in_ok-table.table
    c.in_ok-table.ensures c.rest.result.now (c.rest.ensures ∙ sym (ap (drop 1) parts)) c.score_of_counts.result c.score_of_counts.ensures

use Rattle.std.proofs.{Common.{Err}, lemmas.{Bool.{le-ltb, lt-ltb}, Result.{err_from_is_err_and}}}
use Rattle.byte_streams.specs.TextLeft.{text_left}
use Rattle.mte_engine.proofs.{Borders.{at_first_line, several_refused}, CountsInput.{line_and_rest}, TableParts.{line_given, line_refused}}
use Rattle.mte_engine.specs.{CountsInput.{HasTakenCounts}, TableCommands.{answers_after}}
use Rattle.mte_engine.proofs.table_command.answer_to_input.Goals as goal

pub returns-then-options-gt1 : goal.returns-then-options-gt1
returns-then-options-gt1 c = λ bytes keeps.
    let i = c.args.input in
    let parts = line_and_rest i.line_has_ended i.line.items bytes (HasTakenCounts i.counts) keeps in
    several_refused (answers_after c.args.command c.args.options) c.args.options.first_lines bytes
    (lt-ltb 1 c.args.options.first_lines c.if-options-gt1.true) i.line.items parts.1.line_is c.fault_of_several_lines.result
    (rw c.deref.ensures.value at c.fault_of_several_lines.ensures)

pub returns-in_err-table : goal.returns-in_err-table
returns-in_err-table c = λ bytes keeps.
    let i = c.args.input in
    let parts = line_and_rest i.line_has_ended i.line.items bytes (HasTakenCounts i.counts) keeps in
    let error = err_from_is_err_and c.from_residual.result c.from_residual.ensures.1 in
    rw (error.1, error.2)
    (at_first_line (answers_after c.args.command c.args.options) c.args.options.first_lines bytes text_left (Err c.in_err-table.field-0.0)
    (le-ltb 1 c.args.options.first_lines c.if-options-gt1.false)
    (line_refused (answers_after c.args.command c.args.options) bytes i.line.items parts.1.line_is c.in_err-table.field-0.0
    (rw c.deref-2.ensures.value at c.in_err-table.ensures)))

pub returns : goal.returns
returns c = λ bytes keeps.
    let i = c.args.input in
    let parts = line_and_rest i.line_has_ended i.line.items bytes (HasTakenCounts i.counts) keeps in
    at_first_line (answers_after c.args.command c.args.options) c.args.options.first_lines bytes text_left c.answer_to_counts.result
    (le-ltb 1 c.args.options.first_lines c.if-options-gt1.false)
    (line_given (answers_after c.args.command c.args.options) bytes i.line.items parts.1.line_is text_left c.in_ok-table.table
    (rw c.deref-2.ensures.value at c.in_ok-table.ensures) parts.0 parts.1.others c.answer_to_counts.result
    (c.answer_to_counts.ensures parts.0 parts.2))

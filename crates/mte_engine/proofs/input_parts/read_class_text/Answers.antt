use Rattle.std.proofs.{Common.{◌≡◌, ◌∷◌, sym, ◌∙◌}, lemmas.Result.{err_from_is_err_and}}
use Rattle.class_table.specs.{ClassLine.{table_of_line}, declared.fault.TableError.TheVariants.{BadLine}}
use Rattle.line_text.specs.Lines.{lines}
use Rattle.mte_engine.{proofs.TwoParts.{others_refused, part_alone, part_refused}, specs.Parts.{table_part}}
use Rattle.mte_engine.specs.declared.fault.InputFault.TheVariants.{Table}
use Rattle.mte_engine.proofs.input_parts.read_class_text.Goals as goal

pub returns-in_err-table : goal.returns-in_err-table
returns-in_err-table c =
    let error = err_from_is_err_and c.from_residual.result c.from_residual.ensures.1 in
    let line = c.in-Some.line.now in
    let parts : lines c.args.text.now ≡ line ∷ c.next.new.self = sym c.lines_in-lines.ensures ∙ c.in-Some.ensures.steps in
    rw (error.1, error.2, parts)
    (part_refused (table_part (table_of_line line)) (Table BadLine) c.next.new.self c.in_err-table.field-0.0 c.in_err-table.ensures)

pub returns-in_err-end_text : goal.returns-in_err-end_text
returns-in_err-end_text c =
    let error = err_from_is_err_and c.from_residual-in_err-end_text.result c.from_residual-in_err-end_text.ensures.1 in
    let line = c.in-Some.line.now in
    let parts : lines c.args.text.now ≡ line ∷ c.next.new.self = sym c.lines_in-lines.ensures ∙ c.in-Some.ensures.steps in
    rw (error.1, error.2, parts)
    (others_refused (table_part (table_of_line line)) (Table BadLine) c.in_ok-table.table c.next.new.self c.in_err-end_text.field-0.0
    c.in_ok-table.ensures (rw c.rest.ensures at c.in_err-end_text.ensures))

pub returns : goal.returns
returns c =
    let line = c.in-Some.line.now in
    let parts : lines c.args.text.now ≡ line ∷ c.next.new.self = sym c.lines_in-lines.ensures ∙ c.in-Some.ensures.steps in
    rw parts
    (part_alone (table_part (table_of_line line)) (Table BadLine) c.in_ok-table.table c.next.new.self c.in_ok-table.ensures
    (rw c.rest.ensures at c.in_ok-end_text.ensures))

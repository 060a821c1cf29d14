use Rattle.std.proofs.Common.{sym, ap, subst, ◌∙◌}
use Rattle.class_table.specs.{ClassLine.{table_of, table_of_lines}, Faults.{Gives}}
use Rattle.class_table.proofs.table.ClassTable.read_line.Goals as goal

pub returns-in_default-clause-exact : goal.returns-in_default-clause-exact
unfolding table_of
returns-in_default-clause-exact c = ap table_of_lines (sym c.lines_in-lines.ensures ∙ c.in_default.ensures.steps.0)

pub returns-in-Some-next-clause-exact : goal.returns-in-Some-next-clause-exact
unfolding table_of
returns-in-Some-next-clause-exact c =
    ap table_of_lines (sym c.lines_in-lines.ensures ∙ rw c.in-Some-next.ensures.steps at c.in-Some.ensures.steps)

pub returns-clause-exact : goal.returns-clause-exact
unfolding table_of
returns-clause-exact c =
    let one = ap table_of_lines (sym c.lines_in-lines.ensures ∙ rw c.in_default-next.ensures.steps.0 at c.in-Some.ensures.steps) in
    subst (Gives c.from_line.result) (sym one) c.from_line.ensures.exact

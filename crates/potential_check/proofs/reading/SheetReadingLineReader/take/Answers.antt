use Rattle.std.proofs.Common.{arith, sym, ◌∙◌}
use Rattle.potential_check.proofs.LeadingLines.{left_line, no_line_left, takes_line}
use Rattle.potential_check.proofs.reading.SheetReadingLineReader.take.Goals as goal

pub returns-in_err-line-clause-end : goal.returns-in_err-line-clause-end
returns-in_err-line-clause-end c = grind (arith, no_line_left)

pub returns-then-leaves-clause-end : goal.returns-then-leaves-clause-end
returns-then-leaves-clause-end c = grind (arith, left_line)

pub returns-clause-line : goal.returns-clause-line
returns-clause-line c =
    let line = c.in_ok-line.line.now in
    let takes = takes_line c.args.self.now line c.next.new.self c.take.new.self c.take.result (sym c.if-leaves.ensures)
    (rw c.of_line-part.ensures at c.take.ensures) in
    (line, sym c.rest.ensures ∙ sym c.lines_in-ahead.ensures ∙ c.in_ok-line.ensures.steps, rw (c.after-self.ensures, c.of_line-part.ensures) takes)

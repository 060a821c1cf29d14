use Rattle.std.proofs.Common.{◌∙◌}
use Rattle.potential_check.proofs.LeadingLines.{leading_fault, leading_read}
use Rattle.potential_check.proofs.reading.read_leading_sheet.Goals as goal

pub returns-in-Ok : goal.returns-in-Ok
returns-in-Ok g c =
    let cost = g.C.CostKind.kind in
    rw c.certificate.ensures
    (leading_read cost _ _ _ _ (rw (c.new.ensures, c.kind.ensures, c.lines_in.ensures) at c.in-Ok.ensures.read) (c.lines.ensures cost)
    (c.rest.ensures ∙ (rw (c.new.ensures, c.lines_in.ensures) at c.in-Ok.ensures.left)))

pub returns-in-Err-Fault-default : goal.returns-in-Err-Fault-default
returns-in-Err-Fault-default g c =
    let stop = c.in-Err-Fault-default in
    rw (c.at_line.ensures, c.from.ensures, c.kind-in-Err-Fault-default.ensures)
    (leading_fault g.row.C.Denot g.C.CostKind.kind _ _ stop.field-0-0-0 (rw (stop.field-0-0-is, c.new.ensures, c.kind.ensures, c.lines_in.ensures) at stop.ensures.read))

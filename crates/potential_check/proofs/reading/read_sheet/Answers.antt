use Rattle.std.proofs.Common.{arith, sym, ◌∙◌}
use Rattle.potential_check.proofs.{LeadingLines.{all_fault_given, all_read, line_after}, ReadIsSpelled.{read_is_spelled}}
use Rattle.potential_check.specs.Certificates.SheetView.{sheet_of}
use Rattle.potential_check.proofs.reading.read_sheet.Goals as goal

pub returns-in_err-leading-clause-exact : goal.returns-in_err-leading-clause-exact
returns-in_err-leading-clause-exact g c = grind (arith, all_fault_given)

pub returns-in-None-clause-exact : goal.returns-in-None-clause-exact
returns-in-None-clause-exact g c = all_read _ _ _ _ _ c.in_ok-leading.ensures (sym c.lines_in.ensures ∙ c.in-None.ensures.steps.0)

pub returns-in-None-clause-within : goal.returns-in-None-clause-within
returns-in-None-clause-within g c = (read_is_spelled _ c.args.text.now _ (returns-in-None-clause-exact g c)).limits

pub returns-in-Some-clause-exact : goal.returns-in-Some-clause-exact
returns-in-Some-clause-exact g c =
    rw (c.at_line.ensures, c.kind.ensures)
    (line_after _ _ _ _ _ c.in_ok-leading.ensures (sheet_of {C = g.row.C.Denot}) _ _ (sym c.lines_in.ensures ∙ c.in-Some.ensures.steps))

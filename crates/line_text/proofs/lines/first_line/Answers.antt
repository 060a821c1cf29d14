use Rattle.std.proofs.lemmas.List.{take_rest}
use Rattle.line_text.proofs.Cuts.{cut_at, lacks_all, lacks_before}
use Rattle.line_text.proofs.lines.first_line.Goals as goal

pub returns-in_err-end-clause-unfinished : goal.returns-in_err-end-clause-unfinished
returns-in_err-end-clause-unfinished c = rw c.from_residual.ensures (lacks_all 10 _ c.in_err-end.ensures)

pub returns-clause-cut : goal.returns-clause-cut
returns-clause-cut c = rw take_rest (cut_at 10 _ _ c.in_ok-end.ensures)

pub returns-clause-line : goal.returns-clause-line
returns-clause-line c = lacks_before 10 _ _ c.in_ok-end.ensures

use Rattle.std.proofs.{Common.{sym, ◌∙◌, arith}, lemmas.List.{take_rest}}
use Rattle.line_text.{proofs.Cuts.{lines_at, line_alone, lines-nil, lacks_all}, specs.Lines.{lines}}
use Rattle.line_text.proofs.lines.LinesIterator.next.Goals as goal

pub returns-then-is_empty-clause-steps : goal.returns-then-is_empty-clause-steps
returns-then-is_empty-clause-steps c = grind (arith, lines-nil)

pub returns-in_default : goal.returns-in_default
unfolding lines
returns-in_default c = grind (arith, line_alone, lacks_all)

pub returns : goal.returns
returns c =
    let text = c.self.inside.rest.now in
    let end = c.in-Some.end in
    let steps = sym c.self.view_is ∙ lines_at text end c.in-Some.ensures in
    grind (arith, take_rest)

use Rattle.std.proofs.Common.{◌-◌, ◌∙◌, arith, eqb-true, length, sym}
use Rattle.mte_engine.proofs.LineCuts.{cut_at_once, cut_empty, cut_last, cut_more, long_text}
use Rattle.mte_engine.proofs.border.+end_of_lines.Goals as goal

pub returns-then-border-eq0 : goal.returns-then-border-eq0
returns-then-border-eq0 n c = rw c.if-border-eq0.true (cut_at_once c.args.text.now)

pub returns-in-Some : goal.returns-in-Some
returns-in-Some n c =
    cut_more c.args.text.now c.in-Some.line.now c.in-Some.rest.now c.args.border (c.args.border - 1) c.end_of_lines-end.result.0 _ _
    c.in-Some.ensures.cut c.in-Some.ensures.line (omega (arith, c.if-border-eq0.false)) (omega arith) c.end_of_lines-end.ensures

pub returns-then-is_empty : goal.returns-then-is_empty
returns-then-is_empty n c =
    rw c.if-is_empty.true
    (cut_empty c.args.text.now c.args.border (eqb-true (length c.args.text.now) 0 (sym c.is_empty.ensures ∙ c.if-is_empty.true))
    (omega (arith, c.if-border-eq0.false)))

pub returns-else-is_empty : goal.returns-else-is_empty
returns-else-is_empty n c =
    cut_last c.args.text.now c.args.border (long_text c.args.text.now (sym c.is_empty.ensures ∙ c.if-is_empty.false))
    (omega (arith, c.if-border-eq0.false)) c.in-None.ensures.unfinished

use Rattle.std.proofs.{Common.{refl, sym, ◌∙◌}, lemmas.Bool.{le-ltb, lt-ltb}}
use Rattle.byte_streams.specs.TextLeft.{text_left}
use Rattle.mte_engine.{proofs.Borders.{at_first_line, no_lines_refused, several_refused}, specs.Score.{score_after}}
use Rattle.mte_engine.proofs.scoring.score_at_border.Goals as goal

pub returns-in_default : goal.returns-in_default
returns-in_default c =
    no_lines_refused (score_after c.args.options) c.args.options.first_lines c.args.text.now
    (lt-ltb 1 c.args.options.first_lines c.if-options-gt1.true) (sym c.lines_in-lines.ensures ∙ c.in_default.ensures.steps.0)

pub returns-then-options-gt1 : goal.returns-then-options-gt1
returns-then-options-gt1 c =
    let parts = sym c.lines_in-lines.ensures ∙ c.in-Some.ensures.steps in
    several_refused (score_after c.args.options) c.args.options.first_lines c.args.text.now
    (lt-ltb 1 c.args.options.first_lines c.if-options-gt1.true) c.in-Some.line.now (rw parts refl) c.fault_of_several_lines.result
    c.fault_of_several_lines.ensures

pub returns : goal.returns
returns c =
    at_first_line (score_after c.args.options) c.args.options.first_lines c.args.text.now text_left c.score_of_text.result
    (le-ltb 1 c.args.options.first_lines c.if-options-gt1.false) c.score_of_text.ensures

use Rattle.std.proofs.lemmas.Bool.{le-ltb, lt-ltb}
use Rattle.byte_streams.specs.TextLeft.{text_left}
use Rattle.line_text.specs.Lines.{lines}
use Rattle.mte_engine.proofs.Borders.{leading_part, part_at_border}
use Rattle.mte_engine.proofs.checking.check_text.Goals as goal

pub returns-then-options-gt0 : goal.returns-then-options-gt0
returns-then-options-gt0 c =
    part_at_border c.args.options (lines c.args.text.now) text_left c.check_at_border.result
    (lt-ltb 0 c.args.options.first_lines c.if-options-gt0.true) c.check_at_border.ensures

pub returns : goal.returns
returns c =
    leading_part c.args.options (lines c.args.text.now) text_left c.check_leading.result
    (le-ltb 0 c.args.options.first_lines c.if-options-gt0.false) c.check_leading.ensures

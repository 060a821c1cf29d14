use Rattle.std.proofs.Common.{◌≡◌, ◌∙◌, arith}
use Rattle.command_words.proofs.Tables.{command_more}
use Rattle.command_words.proofs.words.command.Goals as goal

pub loop-name-preserved : goal.loop-name-preserved
loop-name-preserved c =
    let words = c.in-Ok.ensures in
    let added = c.in_ok-command-in-Ok.ensures in
    added.shape words.1 ∙ command_more _ _ _ _ _ _ c.loop-name-test.true c.loop-name.invariant words.0

pub returns : goal.returns
returns c =
    let all : c.loop-name.name-index ≡ 10 = omega arith in
    rw all at c.loop-name.invariant

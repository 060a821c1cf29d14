use Rattle.std.proofs.{Common.{◌++◌, ◌∙◌, take, ap, sym}, lemmas.Fmt.{decimal_digit}}
use Rattle.replay_core.proofs.TwoDigits.{decimal_two}
use Rattle.replay_core.proofs.put.put_below_100.Goals as goal

pub returns-then-number-lt10-clause-text : goal.returns-then-number-lt10-clause-text
returns-then-number-lt10-clause-text c =
    c.put.ensures.text ∙ ap (λ digits. take c.args.at c.args.text.now ++ digits) (sym (decimal_digit c.args.number c.if-number-lt10.true))

pub returns-clause-text : goal.returns-clause-text
returns-clause-text c =
    c.put-2.ensures.text
    ∙ ap (λ digits. take c.args.at c.args.text.now ++ digits)
    (c.two.ensures ∙ sym (decimal_two c.args.number c.if-number-lt10.false c.requires.small))

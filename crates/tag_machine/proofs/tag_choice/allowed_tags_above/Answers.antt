use Rattle.std.{proofs.Common.{◌+◌, ◌-◌, ap, ◌∙◌, arith}, specs.Int.{rotate_right, w16}}
use Rattle.tag_machine.proofs.Choice.{allowed_places}
use Rattle.tag_machine.proofs.tag_choice.allowed_tags_above.Goals as goal

pub returns : goal.returns
returns c =
    allowed_places c.args.tag c.args.exclude c.rotate_right.result (omega arith) (omega arith)
    (c.rotate_right.ensures ∙ ap (λ t. rotate_right w16 (65535 - c.args.exclude) (t + 1)) c.from.ensures)

use Rattle.std.proofs.{Common.{◌∙◌, ap, arith, refl}, lemmas.Grind.{common_steps}}
use Rattle.command_words.{proofs.Tables.{option_more}, specs.Options.{option_rule}}
use Rattle.command_words.proofs.commands.shared_help.Words.command.Goals as goal

pub loop-option-preserved : goal.loop-option-preserved
loop-option-preserved c =
    let before = c.loop-option.invariant in
    let option = c.arg.ensures in
    let added = c.in_ok-command.ensures in (
      added.shape option.1 ∙ option_more _ _ _ _ _ _ c.loop-option-test.true before.0
          (option.0 ∙ ap option_rule c.number_option.ensures),
      added.globals ∙ rw (before.1, option.1) refl,
    )

pub returns : goal.returns
returns c = grind (arith, common_steps)

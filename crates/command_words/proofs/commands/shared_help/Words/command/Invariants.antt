use Rattle.std.proofs.Common.{fold, take}
use Rattle.clap.specs.Words.{new_app}
use Rattle.command_words.specs.{AcceptedWords.{HasWords}, Options.{with_option}}
use Rattle.command_words.proofs.commands.shared_help.Words.command.Given as goal

abbrev pub invariant-loop-option : goal.invariant-loop-option
invariant-loop-option l = HasWords l.command (fold with_option (new_app l.self.name.now) (take l.option-index l.options))

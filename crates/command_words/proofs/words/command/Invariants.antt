use Rattle.std.proofs.Common.{◌≡◌, fold, take}
use Rattle.clap.specs.Words.{app_of}
use Rattle.command_words.specs.AcceptedWords.{top, with_command}
use Rattle.command_words.proofs.words.command.Given as goal

abbrev pub invariant-loop-name : goal.invariant-loop-name
invariant-loop-name l = app_of l.command ≡ fold with_command top (take l.name-index l.name-items)

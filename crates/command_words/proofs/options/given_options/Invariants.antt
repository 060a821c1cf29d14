use Rattle.std.proofs.Common.{take}
use Rattle.clap.specs.Words.{found_of, rows_of}
use Rattle.command_words.proofs.GivenOptions.{AreGiven}
use Rattle.command_words.proofs.options.given_options.Given as goal

abbrev pub invariant-loop-option : goal.invariant-loop-option
invariant-loop-option l = AreGiven (rows_of (found_of l.words)) (take l.option-index l.option-items) l.options

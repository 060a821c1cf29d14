-- The exit status of the program.
use Rattle.std.specs.Prelude.{◌≡◌, ℕ, Bool, true, false, Ok, Err}
use Rattle.clap.specs.{Words.{kind_of}, declared.error.kind.ErrorKind.{ErrorKind}}
use Rattle.clap.specs.declared.error.kind.ErrorKind.TheVariants.{DisplayHelp, DisplayVersion}
use Rattle.mte_engine.specs.declared.engine.Status.TheVariants.{Done, No}
use Rattle.mte_engine.specs.declared.fault.ToolFault.TheVariants.{OutOfMemory, Input, ReadFault, WriteFault}
use Rattle.mte_tool.specs.declared.end.{End.{End}, End.TheVariants.{Shown, Refused, Ended}}
use Rattle.command_words.specs.declared.refusal.{Refusal.{Refusal}, Refusal.TheVariants.{OutOfMemory as NoMemory, Words, Options}}

-- 0 where a command is done and where help was shown, 1 for a no, 2 for refused words and refused input, 3 where memory ran out, and for
-- a failed read or write.
abbrev pub status_of : End → ℕ
status_of Shown = 0
status_of Refused = 2
status_of (Ended (Ok Done)) = 0
status_of (Ended (Ok No)) = 1
status_of (Ended (Err (Input fault))) = 2
status_of (Ended (Err OutOfMemory)) = 3
status_of (Ended (Err ReadFault)) = 3
status_of (Ended (Err WriteFault)) = 3

-- The words ask for help or for the version.
abbrev pub is_shown : ErrorKind → Bool
is_shown DisplayHelp = true
is_shown DisplayVersion = true
is_shown kind = false

-- No command runs, since the words ask for a text: the help or the version.
abbrev pub AsksForText : Refusal → Type 0
AsksForText NoMemory = ⊥
AsksForText (Options fault) = ⊥
AsksForText (Words error) = is_shown (kind_of error) ≡ true

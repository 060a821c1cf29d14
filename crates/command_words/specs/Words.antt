-- What the words of a command line mean.
use Rattle.std.specs.Prelude.{◌≡◌, ◌≢◌, List, [], ⊤}
use Rattle.clap.specs.{Kinds.{IsAmong}, Words.{Text, kind_of, fault_of, subcommand_of}, declared.error.Error.{Error}}
use Rattle.command_words.specs.{AcceptedWords.{program}, Calls.{IsCall, IsNoCall}, declared.refusal.Refusal.{Refusal}}
use Rattle.command_words.specs.declared.refusal.Refusal.TheVariants.{OutOfMemory, Words, Options}
use Rattle.tool_call.specs.declared.call.Call.{Call}
use Rattle.clap.specs.declared.error.kind.ErrorKind.TheVariants as kind

-- The words, of which the first is the program's name, mean this call.
abbrev pub Mean : List Text → Call → Type 0
Mean words call = (fault_of program words ≡ []) × IsCall (subcommand_of program words) call

-- They are refused so: clap has the kind of fault for them that the error has, or they are in order and mean no call.
abbrev pub AreRefused : List Text → Refusal → Type 0
AreRefused words OutOfMemory = ⊤
AreRefused words (Words error) = IsAmong (kind_of error) (fault_of program words)
AreRefused words (Options fault) = (fault_of program words ≡ []) × IsNoCall (subcommand_of program words)

-- The refusal of words of which one is no text.
abbrev pub IsNoText : Refusal → Type 0
IsNoText OutOfMemory = ⊤
IsNoText (Words error) = kind_of error ≡ kind.InvalidValue
IsNoText (Options fault) = ⊥

-- A refusal for an error of clap.
abbrev pub IsFromClap : Error → Refusal → Type 0
IsFromClap error OutOfMemory = kind_of error ≡ kind.OutOfMemory
IsFromClap error (Words e) = (e ≡ error) × (kind_of error ≢ kind.OutOfMemory)
IsFromClap error (Options fault) = ⊥

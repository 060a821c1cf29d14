-- How the program ends where no call runs, and what it writes then.
use Rattle.std.specs.Prelude.{◌≡◌, ◌⊎◌, ◌<◌, ℕ, List, length, MatchBool, Ok, Err}
use Rattle.byte_streams.specs.{Streams.{SinkState}, Transfer.{HasWritten}, declared.streams.Failure.{Failure}}
use Rattle.clap.specs.Words.{kind_of}
use Rattle.command_words.specs.declared.refusal.{Refusal.{Refusal}, Refusal.TheVariants.{OutOfMemory as NoMemory, Words, Options}}
use Rattle.mte_engine.specs.declared.fault.{ToolFault.{ToolFault}, ToolFault.TheVariants.{OutOfMemory, WriteFault}}
use Rattle.mte_tool.specs.{Exit.{is_shown}, Told.{Tells, option_line}, declared.end.End.{End}}
use Rattle.mte_engine.specs.FaultText.{fault_line}
use Rattle.mte_tool.specs.declared.end.End.TheVariants.{Shown, Refused, Ended}

-- The end is this fault, and the error stream was told its line.
abbrev pub IsToldEnd : ToolFault → SinkState → SinkState → End → Type 0
IsToldEnd fault errors errors' end = (end ≡ Ended (Err fault)) × Tells (fault_line fault) errors errors'

-- The sink took the whole text; or what the text begins with, and then a write failed, and that is the end.
abbrev pub IsShown : List ℕ → SinkState → SinkState → SinkState → SinkState → End → Type 0
IsShown text sink sink' errors errors' end =
    ((end ≡ Shown) × HasWritten text sink sink' (Ok tt) × (errors' ≡ errors))
    ⊎ (IsToldEnd WriteFault errors errors' end × ((failure : Failure) × HasWritten text sink sink' (Err failure)))

-- The stream was told a text that is not empty. Which one clap renders no contract says.
abbrev pub TellsSome : SinkState → SinkState → Type 0
TellsSome errors errors' = (text : List ℕ) × (0 < length text) × Tells text errors errors'

-- The end by the refusal: memory ran out; or the sink is untouched, the words are refused, and that was told; or a text that they ask for,
-- which is not empty, was written.
abbrev pub EndsWithout : Refusal → {W : Type 0} → (W → SinkState) → W → W → SinkState → SinkState → End → Type 0
EndsWithout NoMemory state sink sink' errors errors' end = IsToldEnd OutOfMemory errors errors' end × (sink' ≡ sink)
EndsWithout (Options fault) state sink sink' errors errors' end =
    (end ≡ Refused) × (sink' ≡ sink) × Tells (option_line fault) errors errors'
EndsWithout (Words error) state sink sink' errors errors' end = MatchBool (is_shown (kind_of error))
    ((IsToldEnd OutOfMemory errors errors' end × (sink' ≡ sink))
    ⊎ ((text : List ℕ) × (0 < length text) × IsShown text (state sink) (state sink') errors errors' end))
    ((end ≡ Refused) × (sink' ≡ sink) × TellsSome errors errors')

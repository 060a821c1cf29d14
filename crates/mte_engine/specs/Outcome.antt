-- What an engine writes for an input, and how a call of it ends.
use Rattle.std.specs.Prelude.{◌≡◌, ◌↔◌, ◌<◌, ◌≤◌, ℕ, List, ◌++◌, length, Result, Ok, Err, nat_lt, MatchBool, ⊤}
use Rattle.byte_streams.specs.{Streams.{SinkState, SourceState}, Transfer.{HasEnded, HasGiven, HasTaken, IsReadFewTimes, most_input}}
use Rattle.byte_streams.specs.declared.fault.ReadError.{ReadError}
use Rattle.byte_streams.specs.declared.fault.ReadError.TheVariants.{OutOfMemory as NoMemoryToRead, TooLong as IsTooLong, Failed}
use Rattle.mte_engine.specs.declared.{engine.Status.{Status}, fault.AnswerError.{AnswerError}, fault.InputFault.{InputFault}}
use Rattle.mte_engine.specs.declared.fault.AnswerError.TheVariants.{OutOfMemory as NoMemoryToAnswer, Input as Refused}
use Rattle.mte_engine.specs.declared.fault.{InputFault.TheVariants.{TooLong}, ToolFault.{ToolFault}}
use Rattle.mte_engine.specs.declared.fault.ToolFault.TheVariants.{OutOfMemory, Input, ReadFault, WriteFault}

-- ---- answers

-- A text to be written, and a status.
pub record Answer : Type 0 where
  pub text : List ℕ
  pub status : Status

-- The answers to any input. An input that is too long is refused before any fault of its text.
abbrev pub AnswersInput : (List ℕ → Result Answer InputFault → Type 0) → List ℕ → Result Answer InputFault → Type 0
AnswersInput answers input answer = MatchBool (nat_lt most_input (length input)) (answer ≡ Err TooLong) (answers input answer)

-- The fault is one of these answers, unless memory ran out.
abbrev pub GivesFault : (Result Answer InputFault → Type 0) → AnswerError → Type 0
GivesFault answers NoMemoryToAnswer = ⊤
GivesFault answers (Refused fault) = answers (Err fault)

-- The code's result for an input is one of these answers, unless memory ran out. `text` is the text of an output.
abbrev pub GivesAnswer : {O : Type 0} → (O → List ℕ) → (Result Answer InputFault → Type 0) → Result (O × Status) AnswerError → Type 0
GivesAnswer text answers (Ok answered) = answers (Ok (record { text = text answered.0; status = answered.1 }))
GivesAnswer text answers (Err error) = GivesFault answers error

-- ---- faults of the parts, as faults of the engine

abbrev pub fault_of_read : ReadError → ToolFault
fault_of_read NoMemoryToRead = OutOfMemory
fault_of_read IsTooLong = Input TooLong
fault_of_read Failed = ReadFault

abbrev pub fault_of_answer : AnswerError → ToolFault
fault_of_answer NoMemoryToAnswer = OutOfMemory
fault_of_answer (Refused fault) = Input fault

-- ---- a call of an engine

-- This is the answer to exactly the bytes that the source gave. It had given all of them, or more than an input may have.
abbrev pub AnswersGiven : (List ℕ → Result Answer InputFault → Type 0) → SourceState → SourceState → Result Answer InputFault → Type 0
AnswersGiven answers source source' answer =
    (input : List ℕ) × HasGiven source source' input × AnswersInput answers input answer × (length input ≤ most_input → HasEnded source')

-- What a call wrote. Where the engine finished, the sink took the whole text of the answer; after a failed write a prefix of it; after any
-- other fault the sink is the value that it was.
abbrev pub Reports : (List ℕ → Result Answer InputFault → Type 0) → SourceState → SourceState → {W : Type 0} → (W → SinkState) → W → W →
    Result Status ToolFault → Type 0
Reports answers source source' state sink sink' (Ok status) =
    (text : List ℕ) × AnswersGiven answers source source' (Ok (record { text = text; status = status }))
    × HasTaken (state sink) (state sink') text
Reports answers source source' state sink sink' (Err OutOfMemory) = sink' ≡ sink
Reports answers source source' state sink sink' (Err (Input fault)) = AnswersGiven answers source source' (Err fault) × (sink' ≡ sink)
Reports answers source source' state sink sink' (Err ReadFault) = sink' ≡ sink
Reports answers source source' state sink sink' (Err WriteFault) =
    (written rest : List ℕ) × (status : Status) × AnswersGiven answers source source' (Ok (record { text = written ++ rest; status = status }))
    × HasTaken (state sink) (state sink') written

-- What a call of an engine with these answers does, from a source to a sink.
pub record Runs (answers : List ℕ → Result Answer InputFault → Type 0) (source source' : SourceState) {W : Type 0} (state : W → SinkState)
    (sink sink' : W)
    (result : Result Status ToolFault) : Type 0 where
  -- a failed read is reported exactly where one failed, and so is a failed write
  pub read_fault : (result ≡ Err ReadFault) ↔ (source.failed < source'.failed)
  pub write_fault : (result ≡ Err WriteFault) ↔ ((state sink).failed < (state sink').failed)
  -- what was written is the answer to the bytes that the source gave
  pub answer : Reports answers source source' state sink sink' result
  -- how often the source is read is bounded
  pub few_reads : IsReadFewTimes source source'

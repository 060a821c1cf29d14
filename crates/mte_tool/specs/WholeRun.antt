-- What the program has read, written and told in all, through the streams that it began with, and how it ended.
use Rattle.std.specs.Prelude.{◌≡◌, ◌≤◌, ◌<◌, ◌⊎◌, ◌↔◌, ℕ, false, true, List, [], ◌++◌, length, Result, Ok, Err}
use Rattle.byte_streams.specs.{Streams.{SinkState, SourceState}, Transfer.{most_input}}
use Rattle.mte_engine.specs.{Calls.{answers_of}, Outcome.{Answer, AnswersInput}, declared.engine.Status.{Status}}
use Rattle.mte_engine.specs.declared.fault.{InputFault.{InputFault}}
use Rattle.mte_engine.specs.declared.fault.ToolFault.TheVariants.{OutOfMemory, Input, ReadFault, WriteFault}
use Rattle.clap.specs.Words.{kind_of}
use Rattle.command_words.specs.declared.refusal.{Refusal.{Refusal}, Refusal.TheVariants.{OutOfMemory as NoMemory, Words, Options}}
use Rattle.mte_tool.specs.{Exit.{AsksForText, is_shown}, Told.{IsSilent, IsWaitingAtMost, WasTold, WasToldFault, option_line}, declared.end.End.{End}}
use Rattle.mte_tool.specs.declared.end.End.TheVariants.{Shown, Refused, Ended}
use Rattle.tool_call.specs.declared.call.Call.{Call}

-- Nothing was given and nothing was taken yet, and nothing has failed.
pub record AreNew (source : SourceState) (sink errors : SinkState) : Type 0 where
  pub given : source.given ≡ []
  pub no_read_failed : source.failed ≡ 0
  pub written : sink.written ≡ []
  pub no_write_failed : sink.failed ≡ 0
  pub silent : IsSilent errors

-- This is the answer to all that the source gave. It was at its end, or had given more than an input may have.
abbrev pub AnswersAll : (List ℕ → Result Answer InputFault → Type 0) → SourceState → Result Answer InputFault → Type 0
AnswersAll answers source answer = AnswersInput answers source.given answer × (length source.given ≤ most_input → source.at_end ≡ true)

-- No call ran, since the words were refused for such a reason.
abbrev pub NoCallRan : (Refusal → Type 0) → (Refusal → Type 0) → SourceState → Type 0
NoCallRan refused reason source = ((why : Refusal) × refused why × reason why) × (source.given ≡ [])

-- No command runs, since the words are none that the program takes; and standard error was told so. Of clap's text no contract says more than
-- that it is not empty.
abbrev pub IsToldMistake : SinkState → Refusal → Type 0
IsToldMistake errors NoMemory = ⊥
IsToldMistake errors (Options fault) = WasTold errors (option_line fault)
IsToldMistake errors (Words error) = (is_shown (kind_of error) ≡ false) × ((text : List ℕ) × (0 < length text) × WasTold errors text)

-- What the streams gave and took, by how the program ended. `means` says which calls its words mean, and `refused` why they are refused.
abbrev pub Ends : (Call → Type 0) → (Refusal → Type 0) → SourceState → SinkState → SinkState → End → Type 0
Ends means refused source sink errors Shown =
    NoCallRan refused AsksForText source × (0 < length sink.written) × IsWaitingAtMost errors
Ends means refused source sink errors Refused = NoCallRan refused (IsToldMistake errors) source × (sink.written ≡ [])
Ends means refused source sink errors (Ended (Ok status)) =
    ((call : Call) × means call × AnswersAll (answers_of call) source (Ok (record { text = sink.written; status = status })))
    × IsWaitingAtMost errors
Ends means refused source sink errors (Ended (Err (Input fault))) =
    ((call : Call) × means call × AnswersAll (answers_of call) source (Err fault)) × (sink.written ≡ []) × WasToldFault errors (Input fault)
Ends means refused source sink errors (Ended (Err OutOfMemory)) = (sink.written ≡ []) × WasToldFault errors OutOfMemory
Ends means refused source sink errors (Ended (Err ReadFault)) =
    ((call : Call) × means call) × (sink.written ≡ []) × WasToldFault errors ReadFault
Ends means refused source sink errors (Ended (Err WriteFault)) =
    (NoCallRan refused AsksForText source ⊎ ((call : Call) × means call × (rest : List ℕ) × (status : Status)
    × AnswersAll (answers_of call) source (Ok (record { text = sink.written ++ rest; status = status }))))
    × WasToldFault errors WriteFault

-- The same, and a failed read and a failed write are the end exactly where one failed.
pub record HasRun (means : Call → Type 0) (refused : Refusal → Type 0) (source : SourceState) (sink errors : SinkState) (end : End)
    : Type 0 where
  pub read_fault : (end ≡ Ended (Err ReadFault)) ↔ (0 < source.failed)
  pub write_fault : (end ≡ Ended (Err WriteFault)) ↔ (0 < sink.failed)
  pub ends : Ends means refused source sink errors end

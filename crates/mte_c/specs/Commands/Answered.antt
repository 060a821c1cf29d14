-- How a call over an input ends, and the text that it leaves.
use Rattle.std.specs.Prelude.{◌≡◌, ◌⊎◌, ℕ, true, false, MatchBool, List, [], ◌++◌, Result, Ok, Err}
use Rattle.handed_text.specs.{Bytes.{IsLeft, bytes_of, is_answer_of}, declared.text.HandedText.{HandedText}}
use Rattle.mte_engine.specs.{Calls.{answers_of, answers_on}, FaultText.{shown_input_fault}, Outcome.{Answer, AnswersInput}}
use Rattle.mte_engine.specs.declared.engine.{Status.{Status}, Status.TheVariants.{Done as IsDone, No as IsNo}}
use Rattle.mte_engine.specs.declared.fault.{InputFault.{InputFault}, ToolFault.{ToolFault}, ToolFault.TheVariants.{Input}}
use Rattle.tool_call.specs.{Options.{has_two_texts}, declared.call.Call.{Call}}
use Rattle.mte_c.specs.declared.commands.call_end.{CallEnd.{CallEnd}, CallEnd.TheVariants.{Done, No, Refused, OutOfMemory, BadOption, Misuse}}

-- ---- a call

-- The end and the text of a call with these answers to this input.
abbrev pub IsAnswered : (List ℕ → Result Answer InputFault → Type 0) → List ℕ → CallEnd → List ℕ → Type 0
IsAnswered answers input Done text = AnswersInput answers input (Ok (record { text = text; status = IsDone }))
IsAnswered answers input No text = AnswersInput answers input (Ok (record { text = text; status = IsNo }))
IsAnswered answers input (Refused fault) text = AnswersInput answers input (Err fault) × (text ≡ shown_input_fault fault)
IsAnswered answers input OutOfMemory text = text ≡ []
IsAnswered answers input BadOption text = ⊥
IsAnswered answers input Misuse text = ⊥

-- The end and the text of a call to what a text held and then an input: where the call's input is two texts, these are the two; else they
-- are the pieces of one.
abbrev pub IsAnsweredTo : Call → List ℕ → List ℕ → CallEnd → List ℕ → Type 0
IsAnsweredTo call held input ended text =
    MatchBool (has_two_texts call.command) (IsAnswered (answers_on call held) input ended text)
    (IsAnswered (answers_of call) (held ++ input) ended text)

-- A call that tests its options first. If they are out of their ranges, it says so, and leaves no text.
pub record IsAnsweredIf (options answered : Type 0) (ended : CallEnd) (text : List ℕ) : Type 0 where
  pub ran : options → answered
  pub refused : (options → ⊥) → (ended ≡ BadOption) × (text ≡ [])

-- A call on a text that C holds. An answer that nobody made an input is refused, and stays as it is. Else the call ends as it is said to,
-- and leaves an answer.
pub record IsCalled (old new : HandedText) (ended : CallEnd) (called : Type 0) : Type 0 where
  pub refused : is_answer_of old ≡ true → (ended ≡ Misuse) × (bytes_of new ≡ bytes_of old) × (is_answer_of new ≡ true)
  pub ran : is_answer_of old ≡ false → called
  pub left : is_answer_of old ≡ false → IsLeft new

-- ---- the steps of a call

-- This end with this text; or memory ran out, and there is no text.
abbrev pub EndsWith : CallEnd → List ℕ → CallEnd → List ℕ → Type 0
EndsWith ended written ended' text = ((ended' ≡ ended) × (text ≡ written)) ⊎ ((ended' ≡ OutOfMemory) × (text ≡ []))

-- What is handed out of an engine's result and of what it wrote.
abbrev pub HandsOut : Result Status ToolFault → List ℕ → CallEnd → List ℕ → Type 0
HandsOut (Ok IsDone) written ended text = EndsWith Done written ended text
HandsOut (Ok IsNo) written ended text = EndsWith No written ended text
HandsOut (Err (Input fault)) written ended text = EndsWith (Refused fault) (shown_input_fault fault) ended text
HandsOut (Err fault) written ended text = (ended ≡ OutOfMemory) × (text ≡ [])

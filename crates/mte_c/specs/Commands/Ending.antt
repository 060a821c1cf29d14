-- What C is told of the end of a call.
use Rattle.std.specs.Prelude.{◌≡◌, ℕ, List, Option, Some, None, unwrap_or}
use Rattle.handed_text.specs.{Bytes.{bytes_of}, declared.ends.TheConstants.{BAD_OPTION, DONE, MISUSE, NO, OUT_OF_MEMORY, REFUSED}}
use Rattle.handed_text.specs.declared.text.HandedText.{HandedText}
use Rattle.line_text.specs.Numbers.{leading_number_of}
use Rattle.mte_c.specs.{Commands.Answered.{IsAnsweredIf, IsAnsweredTo, IsCalled}, declared.commands.call_end.CallEnd.{CallEnd}}
use Rattle.mte_c.specs.declared.commands.call_end.CallEnd.TheVariants.{Done as HasDone, No as HasNo, Refused as IsRefused, OutOfMemory as RanOut}
use Rattle.mte_c.specs.declared.commands.call_end.CallEnd.TheVariants.{BadOption as HasBadOption, Misuse as IsMisuse}
use Rattle.mte_c.specs.declared.commands.structures.Ending.{Ending}
use Rattle.mte_engine.specs.{FaultLines.{line_of_fault}, FaultText.{shown_input_fault}}
use Rattle.tool_call.specs.{Options.{IsValid}, declared.call.Call.{Call}}

-- The number of an end.
abbrev pub number_of_end : CallEnd → ℕ
number_of_end HasDone = DONE
number_of_end HasNo = NO
number_of_end (IsRefused fault) = REFUSED
number_of_end RanOut = OUT_OF_MEMORY
number_of_end HasBadOption = BAD_OPTION
number_of_end IsMisuse = MISUSE

-- The code of a fault is the number at the start of its text. Where there is no fault, both numbers are 0; and so is the line of a fault
-- that has none.
abbrev pub ShowsFault : CallEnd → ℕ → ℕ → Type 0
ShowsFault (IsRefused fault) code line =
    (leading_number_of (shown_input_fault fault) ≡ Some code) × (line ≡ unwrap_or (line_of_fault fault) 0)
ShowsFault ended code line = (code ≡ 0) × (line ≡ 0)

pub record Shows (ended : CallEnd) (ending : Ending) : Type 0 where
  pub number : ending.end ≡ number_of_end ended
  pub fault : ShowsFault ended ending.fault ending.line

-- What a call from C leaves of a text: the end, and what the text holds then. Its input is what the text held, and these bytes.
pub record Answers (call : Call) (old : HandedText) (input : List ℕ) (new : HandedText) (ending : Ending) : Type 0 where
  pub ended : CallEnd
  pub shown : Shows ended ending
  pub called : IsCalled old new ended
      (IsAnsweredIf (IsValid call) (IsAnsweredTo call (bytes_of old) input ended (bytes_of new)) ended (bytes_of new))

-- The same for the number of a command. One that no command has is a misuse, and the text stays as it is.
abbrev pub AnswersIfCall : Option Call → HandedText → List ℕ → HandedText → Ending → Type 0
AnswersIfCall (Some call) old input new ending = Answers call old input new ending
AnswersIfCall None old input new ending = Shows IsMisuse ending × (new ≡ old)

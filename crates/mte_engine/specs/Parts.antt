-- The parts of an input but a trace, which Traces.antt has. A fault has the number of its line in the whole input, counted from 1.
use Rattle.std.specs.Prelude.{◌≡◌, ◌≢◌, ℕ, ◌+◌, ◌<◌, ◌^◌, List, [], ◌∷◌, ◌++◌, drop, length, nat_lt, take, if◌then◌else◌}
use Rattle.std.specs.Prelude.{MatchBool, MatchResult, Result, Ok, Err, ⊤}
use Rattle.line_text.specs.{FirstFault.{◌>>=◌}, Lines.{lines}}
use Rattle.class_table.specs.{ClassLine.{table_of_line}, declared.fault.TableError.{TableError}}
use Rattle.class_table.specs.declared.fault.TableError.TheVariants.{BadLine}
use Rattle.potential_check.specs.{SheetText.{read_by}, declared.cost.Cost.{Cost}, declared.cost.Cost.TheVariants.{Waste, Footprint}}
use Rattle.history_count.specs.{Histories.{History as CountedHistory}, declared.fault.HistoryFault.{HistoryFault}}
use Rattle.history_count.specs.declared.timelines.fault.TimelineFault.{TimelineFault}
use Rattle.profile_count.specs.declared.fault.ProfileFault.{ProfileFault}
use Rattle.tuner_theory.specs.{Profiles.{Profile as Counted}, Sheets.{Sheet}, declared.size_event.SizeEvent.{SizeEvent}}
use Rattle.mte_engine.specs.{Outcome.{Answer}, declared.fault.AnswerError.{AnswerError}, declared.fault.InputFault.{InputFault}}
use Rattle.mte_engine.specs.declared.fault.AnswerError.TheVariants.{OutOfMemory, Input}
use Rattle.mte_engine.specs.declared.fault.InputFault.TheVariants.{Table, BadSheet, BadFit, Profile, History, Timeline}

-- The lines before a part are few enough for the number of each line in it to fit 64 bits.
abbrev pub AreFewLines : ℕ → Type 0
AreFewLines lines = lines < 2 ^ 63

-- A part after which its text has no other lines, or the fault of the first of these.
abbrev pub alone : {A : Type 0} → Result A InputFault → List (List ℕ) → InputFault → Result A InputFault
alone part [] fault = part
alone part (line ∷ ls) fault = do
  x ← part
  Err fault

-- A class line, which is the first line of its input.
abbrev pub table_part : Result (List ℕ) TableError → Result (List ℕ) InputFault
table_part (Ok table) = Ok table
table_part (Err fault) = Err (Table fault)

-- The class line that these lines are.
abbrev pub class_part : List (List ℕ) → Result (List ℕ) InputFault
class_part [] = Err (Table BadLine)
class_part (line ∷ ls) = alone (table_part (table_of_line line)) ls (Table BadLine)

-- The fault of a line of a certificate.
abbrev pub bad_line : Cost → ℕ → InputFault
bad_line Waste number = BadSheet number
bad_line Footprint number = BadFit number

-- A certificate of a cost, which begins with the first line of its input.
abbrev pub sheet_part : Cost → Result Sheet ℕ → Result Sheet InputFault
sheet_part cost (Ok s) = Ok s
sheet_part cost (Err number) = Err (bad_line cost number)

-- A certificate that is these lines, where no others are left of its text.
abbrev pub whole_sheet_part : Cost → List (List ℕ) → List (List ℕ) → Result Sheet InputFault
whole_sheet_part cost ls others = alone (sheet_part cost (read_by cost ls)) others (bad_line cost (length ls + 1))

-- A profile that follows this many lines of its input.
abbrev pub profile_part : ℕ → Result Counted (ℕ × ProfileFault) → Result Counted InputFault
profile_part lines (Ok profile) = Ok profile
profile_part lines (Err fault) = Err (Profile (lines + fault.0) fault.1)

-- A history that follows this many lines of its input.
abbrev pub history_part : ℕ → Result CountedHistory (ℕ × HistoryFault) → Result CountedHistory InputFault
history_part lines (Ok history) = Ok history
history_part lines (Err fault) = Err (History (lines + fault.0) fault.1)

-- A timeline that follows this many lines of its input.
abbrev pub timeline_part : ℕ → Result (List SizeEvent) (ℕ × TimelineFault) → Result (List SizeEvent) InputFault
timeline_part lines (Ok events) = Ok events
timeline_part lines (Err fault) = Err (Timeline (lines + fault.0) fault.1)

-- Two parts, of which the first one's fault comes first.
abbrev pub both_parts : {A B : Type 0} → Result A InputFault → Result B InputFault → Result (A × B) InputFault
both_parts first second = do
  x ← first
  y ← second
  Ok (x, y)

-- The answers to a class line, and to the lines after it, which follow this many of their input: those to its table and these lines, or its
-- fault.
abbrev pub AfterTable : (List ℕ → ℕ → List (List ℕ) → Result Answer InputFault → Type 0) → List (List ℕ) → ℕ → List (List ℕ) →
    Result Answer InputFault → Type 0
AfterTable after class before ls answer =
    MatchResult (class_part class) (λ table. after table before ls answer) (λ fault. answer ≡ Err fault)

-- The same of one text.
abbrev pub AfterLine : (List ℕ → ℕ → List (List ℕ) → Result Answer InputFault → Type 0) → List ℕ → Result Answer InputFault → Type 0
AfterLine after text answer = AfterTable after (take 1 (lines text)) 1 (drop 1 (lines text)) answer

-- Of the lines of an input one that lacks, where there are fewer than the border of its first text says. No first text has an empty line.
abbrev pub lacking : ℕ → List (List ℕ) → List (List ℕ)
lacking border ls = if nat_lt (length ls) border then [] ∷ [] else []

-- The same of one text, of which so many lines are the class line's; for 0 it is the first line.
abbrev pub AtBorder : ℕ → (List ℕ → ℕ → List (List ℕ) → Result Answer InputFault → Type 0) → List ℕ → Result Answer InputFault → Type 0
AtBorder border after text answer =
    MatchBool (nat_lt 1 border)
    (AfterTable after (take border (lines text) ++ lacking border (lines text)) border (drop border (lines text)) answer)
    (AfterLine after text answer)

-- The same of two.
abbrev pub AfterText : (List ℕ → ℕ → List (List ℕ) → Result Answer InputFault → Type 0) → List ℕ → List ℕ →
    Result Answer InputFault → Type 0
AfterText after first text answer = AfterTable after (lines first) 0 (lines text) answer

-- The answers to what follows a part: what is said of it, or its fault.
abbrev pub AnswersPart : {A : Type 0} → Result A InputFault → (A → Answer → Type 0) → Result Answer InputFault → Type 0
AnswersPart {A} part says (Ok answer) = (x : A) × (part ≡ Ok x) × says x answer
AnswersPart part says (Err fault) = part ≡ Err fault

-- These lines, which are left of a text after a part of it, are none; or this fault says that there are some.
abbrev pub EndsPart : List (List ℕ) → InputFault → Result (Unit {0}) AnswerError → Type 0
EndsPart others fault (Ok done) = others ≡ []
EndsPart others fault (Err error) = (others ≢ []) × (error ≡ Input fault)

-- What the code read is this part, unless memory ran out.
abbrev pub GivesPart : {A : Type 0} → Result A AnswerError → Result A InputFault → Type 0
GivesPart (Ok x) part = part ≡ Ok x
GivesPart (Err OutOfMemory) part = ⊤
GivesPart (Err (Input fault)) part = part ≡ Err fault

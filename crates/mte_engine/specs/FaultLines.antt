-- In which line of an input a fault is. Lines are counted from 1.
use Rattle.std.specs.Prelude.{◌≡◌, ℕ, List, Option, Some, None, drop}
use Rattle.line_text.specs.{FirstFault.{IsFirstFault}, Lines.{lines, text_of}}
use Rattle.class_table.specs.ClassLine.{BeginsWithTable}
use Rattle.history_count.specs.{Histories.{History as CountedHistory}, HistoryText.{SpellsHistory}, Timelines.TimelineText.{SpellsTimeline}}
use Rattle.potential_check.specs.{Leading.{leading_lines, lines_after}, SheetText.{SpellsFit, SpellsSheet}}
use Rattle.profile_count.specs.ProfileText.{SpellsProfile}
use Rattle.tuner_theory.specs.{Profiles.{Profile as Counted}, Sheets.{Sheet}, declared.size_event.SizeEvent.{SizeEvent}}
use Rattle.mte_engine.specs.declared.fault.{InputFault.{InputFault}, ToolFault.{ToolFault}}
use Rattle.mte_engine.specs.declared.fault.InputFault.TheVariants.{TooLong, Table, BadSheet, BadFit, Profile, History, Timeline, Trace}
use Rattle.mte_engine.specs.declared.fault.ToolFault.TheVariants.{OutOfMemory, Input, ReadFault, WriteFault}

-- The line of a fault; none where the input is too long, which no line is to blame for.
abbrev pub line_of_fault : InputFault → Option ℕ
line_of_fault TooLong = None
line_of_fault (Table fault) = Some 1
line_of_fault (BadSheet line) = Some line
line_of_fault (BadFit line) = Some line
line_of_fault (Profile line fault) = Some line
line_of_fault (History line fault) = Some line
line_of_fault (Timeline line fault) = Some line
line_of_fault (Trace line fault) = Some line

abbrev pub line_of_tool_fault : ToolFault → Option ℕ
line_of_tool_fault OutOfMemory = None
line_of_tool_fault (Input fault) = line_of_fault fault
line_of_tool_fault ReadFault = None
line_of_tool_fault WriteFault = None

-- The fault is in the line of the first fault of the text.
abbrev pub IsAtFirstFault : {A : Type 0} → (List ℕ → A → Type 0) → List ℕ → InputFault → Type 0
IsAtFirstFault Spells text fault = (n : ℕ) × (line_of_fault fault ≡ Some n) × IsFirstFault Spells text n

-- The text spells a table in its first line, and another part in those after it.
pub record SpellsTableAnd {A : Type 0} (Spells : List ℕ → A → Type 0) (text : List ℕ) (parts : List ℕ × A) : Type 0 where
  pub table : BeginsWithTable text parts.0
  pub rest : Spells (text_of (drop 1 (lines text))) parts.1

abbrev pub SpellsTableAndProfile : List ℕ → List ℕ × Counted → Type 0
SpellsTableAndProfile text parts = SpellsTableAnd SpellsProfile text parts

abbrev pub SpellsTableAndHistory : List ℕ → List ℕ × CountedHistory → Type 0
SpellsTableAndHistory text parts = SpellsTableAnd SpellsHistory text parts

abbrev pub SpellsTableAndTimeline : List ℕ → List ℕ × List SizeEvent → Type 0
SpellsTableAndTimeline text parts = SpellsTableAnd SpellsTimeline text parts

-- The text spells one part in its leading lines, and another in those after them.
pub record SpellsLeadingAnd {A B : Type 0} (First : List ℕ → A → Type 0) (Rest : List ℕ → B → Type 0) (text : List ℕ) (parts : A × B)
    : Type 0 where
  pub first : First (text_of (leading_lines (lines text))) parts.0
  pub rest : Rest (text_of (lines_after (lines text))) parts.1

abbrev pub SpellsSheetAndProfile : List ℕ → Sheet × Counted → Type 0
SpellsSheetAndProfile text parts = SpellsLeadingAnd SpellsSheet SpellsProfile text parts

abbrev pub SpellsFitAndHistory : List ℕ → Sheet × CountedHistory → Type 0
SpellsFitAndHistory text parts = SpellsLeadingAnd SpellsFit SpellsHistory text parts

-- An input that is a timeline or another text: what is kept of it, and what it is in the end.
use Rattle.std.specs.Prelude.{◌≡◌, ℕ, Bool, true, false, List, [], ◌∷◌, ◌++◌, drop, Result, Ok, Err, slice_index_or, ⊤}
use Rattle.history_count.specs.Timelines.{Pieces.{IsReadingOf, Reading, nothing_read}, TimelineText.{head_line, timeline_of}}
use Rattle.line_text.specs.Lines.{IsLine, ended, lines}
use Rattle.mte_engine.specs.{Parts.{timeline_part}, Timelines.{begins_timeline}, declared.counts_input.Counts.{Counts}}
use Rattle.mte_engine.specs.declared.counts_input.{Counts.TheVariants.{Timeline, Text}, CountsInput.{CountsInput}}
use Rattle.mte_engine.specs.declared.fault.{AnswerError.{AnswerError}, AnswerError.TheVariants.{OutOfMemory, Input}}

-- What is kept of the bytes taken so far: the bytes; or what was read of the timeline that they begin.
abbrev pub KeepsTimelineOr : Bool → Reading → List ℕ → List ℕ → Type 0
KeepsTimelineOr false reading text bytes = (text ≡ bytes) × (reading ≡ nothing_read)
KeepsTimelineOr true reading text bytes = (rest : List ℕ) × (bytes ≡ ended head_line ++ rest) × IsReadingOf reading rest

-- The input took these bytes.
abbrev pub HasTakenCounts : CountsInput → List ℕ → Type 0
HasTakenCounts input bytes = KeepsTimelineOr input.is_timeline input.reader input.text.text.items bytes

-- These bytes follow so many lines of their input. They are the timeline that was read, or they do not begin as one does and are the text; or
-- they have the timeline's fault, unless memory ran out.
abbrev pub GivesCounts : Result Counts AnswerError → ℕ → List ℕ → Type 0
GivesCounts (Ok (Timeline events)) before bytes =
    (begins_timeline (lines bytes) ≡ true) × (timeline_part before (timeline_of bytes) ≡ Ok events)
GivesCounts (Ok (Text text)) before bytes = (begins_timeline (lines bytes) ≡ false) × (text.items ≡ bytes)
GivesCounts (Err OutOfMemory) before bytes = ⊤
GivesCounts (Err (Input fault)) before bytes =
    (begins_timeline (lines bytes) ≡ true) × (timeline_part before (timeline_of bytes) ≡ Err fault)

-- The first line is kept, and what the rest of the input is given to has taken the bytes after it; `ended` says whether its end was seen.
abbrev pub KeepsLineAnd : Bool → List ℕ → (List ℕ → Type 0) → List ℕ → Type 0
KeepsLineAnd false line has_taken bytes = (line ≡ bytes) × IsLine bytes × has_taken []
KeepsLineAnd true line has_taken bytes = (rest : List ℕ) × (bytes ≡ line ++ 10 ∷ rest) × IsLine line × has_taken rest

-- The input begins with this line, and this rest comes after it. An empty input has an empty line here.
pub record IsLineAndRest (bytes line rest : List ℕ) : Type 0 where
  pub line_is : line ≡ slice_index_or (lines bytes) 0 []
  pub others : lines rest ≡ drop 1 (lines bytes)

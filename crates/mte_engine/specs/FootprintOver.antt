-- The answers of `footprint` to an input with a timeline: what a table takes over every moment of it, or the least requested size that the
-- table does not serve.
use Rattle.std.specs.Prelude.{◌≡◌, ◌⊎◌, ℕ, List, [], ◌∷◌, codes, MatchBool, Result}
use Rattle.class_table.specs.NamedLines.{named_line}
use Rattle.line_text.specs.Lines.{ended}
use Rattle.history_count.specs.Timelines.{Requests.{IsLeastUnserved}, TimelineText.{timeline_of_lines}}
use Rattle.tuner_theory.specs.{Histories.{peaks}, Timelines.{footprint_over, moments}, Waste.{Serves}}
use Rattle.tuner_theory.specs.declared.size_event.SizeEvent.{SizeEvent}
use Rattle.mte_engine.specs.{Footprint.{MeasuresHistory}, Outcome.{Answer}, Timelines.{begins_timeline}}
use Rattle.mte_engine.specs.Parts.{AfterLine, AnswersPart, AtBorder, timeline_part}
use Rattle.mte_engine.specs.declared.{engine.Status.TheVariants.{Done, No}, fault.InputFault.{InputFault}}
use Rattle.tool_call.specs.declared.options.Options.{Options}

-- `footprint F` where the table serves each requested size; else `not serving N`, with the status of a no.
pub record IsTakenText (table : List ℕ) (events : List SizeEvent) (answer : Answer) : Type 0 where
  pub serving : Serves (peaks (moments events)) table
  pub written : answer ≡ record { text = ended (named_line (codes "footprint") (footprint_over events table ∷ [])); status = Done }

pub record IsUnservedText (table : List ℕ) (events : List SizeEvent) (answer : Answer) : Type 0 where
  pub size : ℕ
  pub least : IsLeastUnserved events table size
  pub written : answer ≡ record { text = ended (named_line (codes "not serving") (size ∷ [])); status = No }

abbrev pub IsMeasuredOver : List ℕ → List SizeEvent → Answer → Type 0
IsMeasuredOver table events answer = IsTakenText table events answer ⊎ IsUnservedText table events answer

-- The answers to a table, for the lines of a timeline, which come after this many of their input;
abbrev pub MeasuresTimeline : List ℕ → ℕ → List (List ℕ) → Result Answer InputFault → Type 0
MeasuresTimeline table before ls answer = AnswersPart (timeline_part before (timeline_of_lines ls)) (IsMeasuredOver table) answer

-- and for those of a timeline, or else of a history.
abbrev pub MeasuresCounts : List ℕ → ℕ → List (List ℕ) → Result Answer InputFault → Type 0
MeasuresCounts table before ls answer =
    MatchBool (begins_timeline ls) (MeasuresTimeline table before ls answer) (MeasuresHistory table before ls answer)

-- One text: a class line, and then a timeline.
abbrev pub FootprintOverAnswers : List ℕ → Result Answer InputFault → Type 0
FootprintOverAnswers text answer = AfterLine MeasuresTimeline text answer

-- By the options: what comes after the table, and one text, a class line and then a timeline or else a history.
abbrev pub footprint_after : Options → List ℕ → ℕ → List (List ℕ) → Result Answer InputFault → Type 0
footprint_after options = MeasuresCounts

abbrev pub footprint_answers : Options → List ℕ → Result Answer InputFault → Type 0
footprint_answers options text answer = AtBorder options.first_lines (footprint_after options) text answer

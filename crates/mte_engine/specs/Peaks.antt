-- The answers of `peaks`: what the blocks of a table come to over a timeline, or the least requested size that the table does not serve.
use Rattle.std.specs.Prelude.{◌≡◌, ◌⊎◌, ℕ, List, [], ◌∷◌, codes, Result}
use Rattle.class_table.specs.NamedLines.{named_line}
use Rattle.line_text.specs.Lines.{text_of}
use Rattle.history_count.specs.Timelines.{LiveBlocks.{AreFirsts, most_blocks}, TablePeaks.{live_bytes, most_freed}}
use Rattle.history_count.specs.Timelines.TimelineText.{timeline_of_lines}
use Rattle.tuner_theory.specs.{Histories.{most, peaks}, Timelines.{moments}, Waste.{Serves}, declared.size_event.SizeEvent.{SizeEvent}}
use Rattle.mte_engine.specs.{FootprintOver.{IsUnservedText}, Outcome.{Answer}, Parts.{AnswersPart, AtBorder, timeline_part}}
use Rattle.mte_engine.specs.declared.{engine.Status.TheVariants.{Done}, fault.InputFault.{InputFault}}
use Rattle.tool_call.specs.declared.options.Options.{Options}

-- For each class the most of its live blocks, and the first moment of so many; of all together the most live bytes, and the most freed blocks.
abbrev pub peak_lines : List ℕ → List ℕ → ℕ → ℕ → List (List ℕ)
peak_lines blocks firsts bytes freed =
    named_line (codes "peaks") blocks ∷ named_line (codes "moments") firsts ∷ named_line (codes "live") (bytes ∷ [])
    ∷ named_line (codes "freed") (freed ∷ []) ∷ []

pub record IsPeaksText (table : List ℕ) (events : List SizeEvent) (answer : Answer) : Type 0 where
  pub serving : Serves (peaks (moments events)) table
  pub firsts : List ℕ
  pub first : AreFirsts events table firsts
  pub written : answer ≡ record {
    text = text_of
        (peak_lines (most_blocks events table) firsts (most (live_bytes table) (moments events)) (most_freed events table));
    status = Done;
  }

abbrev pub ArePeaks : List ℕ → List SizeEvent → Answer → Type 0
ArePeaks table events answer = IsPeaksText table events answer ⊎ IsUnservedText table events answer

-- The answers to a table, for the lines of a timeline, which come after this many of their input.
abbrev pub PeaksCounts : List ℕ → ℕ → List (List ℕ) → Result Answer InputFault → Type 0
PeaksCounts table before ls answer = AnswersPart (timeline_part before (timeline_of_lines ls)) (ArePeaks table) answer

-- By the options: what comes after the table, and one text.
abbrev pub peaks_after : Options → List ℕ → ℕ → List (List ℕ) → Result Answer InputFault → Type 0
peaks_after options = PeaksCounts

abbrev pub peaks_answers : Options → List ℕ → Result Answer InputFault → Type 0
peaks_answers options text answer = AtBorder options.first_lines (peaks_after options) text answer

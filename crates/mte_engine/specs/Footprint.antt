-- The answers of `footprint`: what a table takes over a history, or the least counted size that the table doesn't serve.
use Rattle.std.specs.{Option.{option_map_or}, Prelude.{◌≡◌, ℕ, List, codes, Result}}
use Rattle.history_count.specs.{Histories.{History}, HistoryText.{history_of_lines}}
use Rattle.profile_count.specs.Counts.{unserved_of}
use Rattle.tuner_theory.specs.{Footprint.{footprint_of}, Histories.{peaks}}
use Rattle.mte_engine.specs.{Outcome.{Answer}, Parts.{AfterLine, AnswersPart, history_part}, Score.{number_text, unserved_text}}
use Rattle.mte_engine.specs.declared.fault.InputFault.{InputFault}

abbrev pub measured : List ℕ → History → Answer
measured table history =
    option_map_or unserved_text (unserved_of (peaks history.snapshots) table)
    (number_text (codes "footprint") (footprint_of history.snapshots table))

-- The answers to a table, for the lines of a history, which come after this many of their input.
abbrev pub MeasuresHistory : List ℕ → ℕ → List (List ℕ) → Result Answer InputFault → Type 0
MeasuresHistory table before ls answer =
    AnswersPart (history_part before (history_of_lines ls)) (λ history text. text ≡ measured table history) answer

-- One text: a class line, and then a history.
abbrev pub FootprintAnswers : List ℕ → Result Answer InputFault → Type 0
FootprintAnswers text answer = AfterLine MeasuresHistory text answer

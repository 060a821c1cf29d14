-- The answers of `score`: the waste of a table on a profile, or the least counted size that the table doesn't serve.
use Rattle.std.specs.{Option.{option_map_or}, Prelude.{◌≡◌, ℕ, List, [], ◌∷◌, codes, Result}}
use Rattle.line_text.specs.Lines.{ended}
use Rattle.class_table.specs.NamedLines.{named_line}
use Rattle.profile_count.specs.{Counts.{unserved_of}, ProfileText.{profile_of_lines}}
use Rattle.tuner_theory.specs.{Profiles.{Profile as Counted}, Waste.{waste_of}}
use Rattle.mte_engine.specs.{Outcome.{Answer}, Parts.{AnswersPart, AtBorder, profile_part}}
use Rattle.mte_engine.specs.declared.{engine.Status.TheVariants.{Done, No}, fault.InputFault.{InputFault}}
use Rattle.mte_engine.specs.declared.scoring.{TableScore.{TableScore}, TableScore.TheVariants.{Waste, NotServing}}
use Rattle.tool_call.specs.declared.options.Options.{Options}

-- The line of a name and a number; or `not serving N` with the status of a no, where N is the least counted size without a class.
abbrev pub number_text : List ℕ → ℕ → Answer
number_text name number = record { text = ended (named_line name (number ∷ [])); status = Done }

abbrev pub unserved_text : ℕ → Answer
unserved_text size = record { text = ended (named_line (codes "not serving") (size ∷ [])); status = No }

-- What a table is worth for a profile: its waste, or that size.
abbrev pub score_of : Options → List ℕ → Counted → TableScore
score_of options table profile = option_map_or NotServing (unserved_of profile.counts table) (Waste (waste_of profile.counts table))

-- `waste W`, or `not serving N`.
abbrev pub score_text : TableScore → Answer
score_text (Waste waste) = number_text (codes "waste") waste
score_text (NotServing size) = unserved_text size

-- The answers to a table, for the lines of a profile, which come after this many of their input.
abbrev pub score_after : Options → List ℕ → ℕ → List (List ℕ) → Result Answer InputFault → Type 0
score_after options table before ls answer =
    AnswersPart (profile_part before (profile_of_lines ls)) (λ profile text. text ≡ score_text (score_of options table profile)) answer

-- One text: a class line, and then a profile.
abbrev pub score_answers : Options → List ℕ → Result Answer InputFault → Type 0
score_answers options text answer = AtBorder options.first_lines (score_after options) text answer

-- The answers of `fit` to a timeline: the table of least footprint over every moment, with its certificate; or a table and a bound.
use Rattle.std.specs.Prelude.{◌≡◌, ◌==◌, ◌⊎◌, ◌≤◌, ℕ, Bool, List, [], ◌∷◌, ◌++◌, codes, MatchBool, Result}
use Rattle.class_table.specs.{ClassLine.{class_line}, NamedLines.{named_line}}
use Rattle.line_text.specs.Lines.{ended, lines, text_of}
use Rattle.potential_check.specs.{Footprints.Timelines.MomentsLine.{moments_line}, SheetText.{fit_text}}
use Rattle.history_count.specs.Timelines.TimelineText.{timeline_of}
use Rattle.class_tuner.specs.Fits.Timelines.Found.{IsBetween, IsLeastFit}
use Rattle.tuner_theory.specs.{Sheets.{Sheet}, declared.size_event.SizeEvent.{SizeEvent}}
use Rattle.mte_engine.specs.{Fit.{FitAnswers}, Outcome.{Answer}, Parts.{AnswersPart, timeline_part}, Timelines.{begins_timeline}}
use Rattle.mte_engine.specs.declared.{engine.Status.TheVariants.{Done, No}, fault.InputFault.{InputFault}}
use Rattle.tool_call.specs.declared.options.Options.{Options}

-- The text of a fit, and the line of its moments.
abbrev pub least_text : Sheet → List ℕ → List ℕ
least_text fit numbers = fit_text fit ++ ended (moments_line numbers)

-- A table, what it takes, and that it is not shown to take least, with what no table takes less than.
abbrev pub between_lines : List ℕ → ℕ → ℕ → List (List ℕ)
between_lines table takes least =
    class_line table ∷ named_line (codes "footprint") (takes ∷ [])
    ∷ named_line (codes "not shown least: no table takes less than") (least ∷ []) ∷ []

-- No table takes less over every moment, and a round shows that, the last of those that were made.
pub record IsLeastText (limit step : ℕ) (forced : Bool) (events : List SizeEvent) (answer : Answer) : Type 0 where
  pub made : ℕ
  pub few : made ≤ 1024
  pub numbers : List ℕ
  pub fit : Sheet
  pub least : IsLeastFit events step limit forced made numbers fit
  pub written : answer ≡ record { text = least_text fit numbers; status = Done }

-- None of 1,024 rounds shows that.
pub record IsBetweenText (limit step : ℕ) (forced : Bool) (events : List SizeEvent) (answer : Answer) : Type 0 where
  pub table : List ℕ
  pub takes : ℕ
  pub least : ℕ
  pub between : IsBetween events step limit forced 1024 table takes least
  pub written : answer ≡ record { text = text_of (between_lines table takes least); status = No }

abbrev pub IsFoundText : ℕ → ℕ → Bool → List SizeEvent → Answer → Type 0
IsFoundText limit step forced events answer = IsLeastText limit step forced events answer ⊎ IsBetweenText limit step forced events answer

-- The whole text is a timeline. The answer is what was found, or the timeline's first fault.
abbrev pub FitOverAnswers : ℕ → ℕ → Bool → List ℕ → Result Answer InputFault → Type 0
FitOverAnswers limit step forced text answer = AnswersPart (timeline_part 0 (timeline_of text)) (IsFoundText limit step forced) answer

-- The answers to any input: a timeline, or else a history.
abbrev pub FitEitherAnswers : ℕ → ℕ → Bool → List ℕ → Result Answer InputFault → Type 0
FitEitherAnswers limit step forced text answer =
    MatchBool (begins_timeline (lines text)) (FitOverAnswers limit step forced text answer) (FitAnswers limit step forced text answer)

-- The same by the options.
abbrev pub fit_answers : Options → List ℕ → Result Answer InputFault → Type 0
fit_answers options = FitEitherAnswers options.limit options.step (options.largest_class == 1)

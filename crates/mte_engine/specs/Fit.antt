-- The answers of `fit`: the table of least footprint over a history, with its certificate.
use Rattle.std.specs.Prelude.{◌≡◌, ℕ, Bool, List, Result}
use Rattle.class_tuner.specs.Fits.Fitted.{IsFitOf}
use Rattle.history_count.specs.{Histories.{History}, HistoryText.{history_of}}
use Rattle.potential_check.specs.SheetText.{fit_text}
use Rattle.tuner_theory.specs.Sheets.{Sheet}
use Rattle.mte_engine.specs.{Outcome.{Answer}, Parts.{AnswersPart, history_part}, declared.engine.Status.TheVariants.{Done}}
use Rattle.mte_engine.specs.declared.fault.InputFault.{InputFault}

-- The text of the fit of a history, a limit and a step, and whether the largest class is forced.
pub record IsFitText (limit step : ℕ) (forced : Bool) (history : History) (answer : Answer) : Type 0 where
  pub fit : Sheet
  pub fitted : IsFitOf history.snapshots step limit forced fit
  pub written : answer ≡ record { text = fit_text fit; status = Done }

-- The whole text is a history. The answer is the fit's text, or the history's first fault.
abbrev pub FitAnswers : ℕ → ℕ → Bool → List ℕ → Result Answer InputFault → Type 0
FitAnswers limit step forced text answer = AnswersPart (history_part 0 (history_of text)) (IsFitText limit step forced) answer

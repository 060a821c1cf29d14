-- The answers of `check-fit`: the verdict on the fit at the start of its input, for the history after it.
use Rattle.std.specs.Prelude.{◌≡◌, ℕ, List, [], length, Result}
use Rattle.history_count.specs.{Histories.{History}, HistoryText.{history_of_lines}}
use Rattle.line_text.specs.Lines.{lines}
use Rattle.potential_check.specs.{Leading.{leading_lines, lines_after}, declared.cost.Cost.TheVariants.{Footprint}}
use Rattle.tuner_theory.specs.{Footprint.{IsLeastFootprint}, RefusalText.{shown_fit_refusal}, Sheets.{IsFitVerdict, Sheet}}
use Rattle.tuner_theory.specs.declared.verdict.{Verdict.{Verdict}, Verdict.TheVariants.{Optimal}}
use Rattle.mte_engine.specs.{Check.{claim_asked, verdict_text_by}, Outcome.{Answer}, Parts.{AnswersPart, both_parts, history_part, whole_sheet_part}}
use Rattle.claim_line.specs.Claims.{history_claim}
use Rattle.mte_engine.specs.declared.fault.InputFault.{InputFault}
use Rattle.tool_call.specs.declared.options.Options.{Options}

-- The verdict on a fit for a history. `optimal` is written only where no table in question takes less.
pub record IsFitChecked (options : Options) (fit : Sheet) (history : History) (answer : Answer) : Type 0 where
  pub verdict : Verdict
  pub is_verdict : IsFitVerdict history.snapshots fit verdict
  pub least : verdict ≡ Optimal → IsLeastFootprint fit.forced history.snapshots fit.step fit.limit fit.table
  pub written : answer ≡ verdict_text_by shown_fit_refusal (claim_asked options (history_claim fit history)) verdict

-- The lines of a fit and those that are left of its text, and the lines of a history, which come after this many of their input.
abbrev pub fit_with_history : (fit others : List (List ℕ)) → ℕ → List (List ℕ) → Result (Sheet × History) InputFault
fit_with_history fit others before ls =
    both_parts (whole_sheet_part Footprint fit others) (history_part before (history_of_lines ls))

-- The answer is the verdict, or the first fault of the two.
abbrev pub ChecksFitParts : Options → (fit others : List (List ℕ)) → ℕ → List (List ℕ) → Result Answer InputFault → Type 0
ChecksFitParts options fit others before ls answer =
    AnswersPart (fit_with_history fit others before ls)
    (λ parts text. IsFitChecked options parts.0 parts.1 text) answer

-- One text: a fit, which is its leading lines, and then a history.
abbrev pub CheckFitAnswers : Options → List ℕ → Result Answer InputFault → Type 0
CheckFitAnswers options text answer =
    ChecksFitParts options (leading_lines (lines text)) [] (length (leading_lines (lines text))) (lines_after (lines text)) answer

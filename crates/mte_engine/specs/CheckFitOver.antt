-- The answers of `check-fit` to an input with a timeline: the verdict on the fit at the start of its input, with the moments that it names,
-- for the timeline after it.
use Rattle.std.specs.Prelude.{◌≡◌, ℕ, ◌+◌, Bool, false, List, [], ◌∷◌, ◌++◌, codes, drop, length, nat_lt, take, if◌then◌else◌, MatchBool, Option, Some, None}
use Rattle.std.specs.Prelude.{Result, Ok, Err}
use Rattle.line_text.specs.Lines.{ended, lines}
use Rattle.potential_check.specs.Footprints.Timelines.{MomentsLine.{moments_of, names_moments}, RefusalText.{shown_over_refusal}}
use Rattle.potential_check.specs.{Footprints.Timelines.Verdicts.{IsOverVerdict}, Leading.{leading_lines, lines_after}}
use Rattle.potential_check.specs.{SheetText.{fit_of_lines}, declared.cost.Cost.TheVariants.{Footprint}}
use Rattle.potential_check.specs.declared.footprints.timelines.verdict.OverVerdict.{OverVerdict}
use Rattle.potential_check.specs.declared.footprints.timelines.verdict.OverVerdict.TheVariants.{Optimal, Refused}
use Rattle.history_count.specs.{Histories.{History}, Timelines.TimelineText.{timeline_of_lines}}
use Rattle.tuner_theory.specs.{Sheets.{Sheet}, Timelines.{IsLeastOver}, declared.size_event.SizeEvent.{SizeEvent}}
use Rattle.claim_line.specs.{Claims.{timeline_claim}, declared.claim.Claim.{Claim}}
use Rattle.mte_engine.specs.{Check.{claim_asked, optimal_text}, CheckFit.{CheckFitAnswers, ChecksFitParts, IsFitChecked, fit_with_history}, Outcome.{Answer}, declared.engine.Status.TheVariants.{Done, No}}
use Rattle.mte_engine.specs.{Parts.{AnswersPart, alone, both_parts, lacking, sheet_part, timeline_part}, declared.fault.InputFault.{InputFault}}
use Rattle.mte_engine.specs.declared.fault.InputFault.TheVariants.{BadFit}
use Rattle.tool_call.specs.declared.options.Options.{Options}

abbrev pub over_verdict_text : Option Claim → OverVerdict → Answer
over_verdict_text claim Optimal = record { text = optimal_text claim; status = Done }
over_verdict_text claim (Refused refusal) = record { text = ended (codes "refused " ++ shown_over_refusal refusal); status = No }

-- The first of these lines names moments.
abbrev pub begins_moments : List (List ℕ) → Bool
begins_moments [] = false
begins_moments (line ∷ ls) = names_moments line

-- The line of the moments, which has this number in the input.
abbrev pub moments_part : ℕ → Option (List ℕ) → Result (List ℕ) InputFault
moments_part number (Some numbers) = Ok numbers
moments_part number None = Err (BadFit number)

-- The line of the moments that these lines are, after this many lines of the fit.
abbrev pub whole_moments_part : ℕ → List (List ℕ) → Result (List ℕ) InputFault
whole_moments_part count [] = Err (BadFit (count + 1))
whole_moments_part count (line ∷ ls) = alone (moments_part (count + 1) (moments_of line)) ls (BadFit (count + 2))

-- The verdict on a fit over a timeline. `optimal` is written only where no table in question takes less over every moment.
pub record IsCheckedOver (options : Options) (fit : Sheet) (numbers : List ℕ) (events : List SizeEvent) (answer : Answer) : Type 0 where
  pub verdict : OverVerdict
  pub is_verdict : IsOverVerdict events numbers fit verdict
  pub least : verdict ≡ Optimal → IsLeastOver fit.forced events fit.step fit.limit fit.table
  pub written : answer ≡ over_verdict_text (claim_asked options (timeline_claim fit events)) verdict

-- The lines of a fit, those of its moments, and those of a timeline, which come after this many of their input.
abbrev pub fit_with_timeline : (fit moments : List (List ℕ)) → ℕ → List (List ℕ) → Result (Sheet × (List ℕ × List SizeEvent)) InputFault
fit_with_timeline fit moments before ls =
    both_parts (sheet_part Footprint (fit_of_lines fit))
    (both_parts (whole_moments_part (length fit) moments) (timeline_part before (timeline_of_lines ls)))

-- The answer is the verdict, or the first fault of the three.
abbrev pub ChecksOverParts : Options → (fit moments : List (List ℕ)) → ℕ → List (List ℕ) → Result Answer InputFault → Type 0
ChecksOverParts options fit moments before ls answer =
    AnswersPart (fit_with_timeline fit moments before ls)
    (λ parts text. IsCheckedOver options parts.0 parts.1.0 parts.1.1 text) answer

-- One text: a fit, which is its leading lines, then the line of its moments, and then a timeline.
abbrev pub CheckFitOverAnswers : Options → List ℕ → Result Answer InputFault → Type 0
CheckFitOverAnswers options text answer =
    ChecksOverParts options (leading_lines (lines text)) (take 1 (lines_after (lines text))) (length (leading_lines (lines text)) + 1)
    (drop 1 (lines_after (lines text))) answer

-- One text: after the fit its moments and a timeline, or else a history.
abbrev pub CheckFitEitherAnswers : Options → List ℕ → Result Answer InputFault → Type 0
CheckFitEitherAnswers options text answer =
    MatchBool (begins_moments (lines_after (lines text))) (CheckFitOverAnswers options text answer) (CheckFitAnswers options text answer)

-- The lines of a fit and those that are left of its text, the moments if they begin so, and the lines of a timeline, or else of a history.
abbrev pub ChecksEitherParts : Options → (fit others : List (List ℕ)) → ℕ → List (List ℕ) → Result Answer InputFault → Type 0
ChecksEitherParts options fit others before ls answer =
    MatchBool (begins_moments others)
    (ChecksOverParts options fit others before ls answer)
    (ChecksFitParts options fit others before ls answer)

-- A fit and what comes after it in one text: the fit is its leading lines, or, with its moments, so many of its first lines. Whether moments are
-- named, by that border, which is 0 where none is said;
abbrev pub names_moments_at : ℕ → List (List ℕ) → Bool
names_moments_at border ls =
    if nat_lt 0 border then begins_moments (lines_after (take border ls) ++ lacking border ls) else begins_moments (lines_after ls)

-- the fit with its moments, and the timeline, if they are;
abbrev pub fit_and_timeline : ℕ → List (List ℕ) → Result (Sheet × (List ℕ × List SizeEvent)) InputFault
fit_and_timeline border ls =
    if nat_lt 0 border
    then fit_with_timeline (leading_lines (take border ls)) (lines_after (take border ls) ++ lacking border ls) border (drop border ls)
    else fit_with_timeline (leading_lines ls) (take 1 (lines_after ls)) (length (leading_lines ls) + 1) (drop 1 (lines_after ls))

-- and the fit and the history, if they are not.
abbrev pub fit_and_history : ℕ → List (List ℕ) → Result (Sheet × History) InputFault
fit_and_history border ls =
    if nat_lt 0 border
    then fit_with_history (leading_lines (take border ls)) (lines_after (take border ls) ++ lacking border ls) border (drop border ls)
    else fit_with_history (leading_lines ls) [] (length (leading_lines ls)) (lines_after ls)

-- One text at the border that the options say.
abbrev pub CheckFitAtBorder : Options → ℕ → List ℕ → Result Answer InputFault → Type 0
CheckFitAtBorder options border text answer =
    ChecksEitherParts options (leading_lines (take border (lines text)))
    (lines_after (take border (lines text)) ++ lacking border (lines text)) border (drop border (lines text)) answer

-- By the options: one text; and two, of which the first is a fit, with its moments before a timeline, and nothing else.
abbrev pub check_fit_answers : Options → List ℕ → Result Answer InputFault → Type 0
check_fit_answers options text answer =
    MatchBool (names_moments_at options.first_lines (lines text))
    (AnswersPart (fit_and_timeline options.first_lines (lines text)) (λ parts. IsCheckedOver options parts.0 parts.1.0 parts.1.1) answer)
    (AnswersPart (fit_and_history options.first_lines (lines text)) (λ parts. IsFitChecked options parts.0 parts.1) answer)

abbrev pub check_fit_on_answers : Options → List ℕ → List ℕ → Result Answer InputFault → Type 0
check_fit_on_answers options first text =
    ChecksEitherParts options (leading_lines (lines first)) (lines_after (lines first)) 0 (lines text)

-- The answers of `check`: the verdict on the sheet at the start of its input, for the profile after it.
use Rattle.std.specs.Prelude.{◌≡◌, ◌==◌, ℕ, List, [], ◌++◌, codes, drop, length, nat_lt, take, if◌then◌else◌, Option, Some, None}
use Rattle.std.specs.Prelude.{Result}
use Rattle.claim_line.specs.{Claims.{profile_claim}, Lines.{shown_claim}, declared.claim.Claim.{Claim}}
use Rattle.line_text.specs.Lines.{lines, ended}
use Rattle.potential_check.specs.{Leading.{leading_lines, lines_after}, declared.cost.Cost.TheVariants.{Waste}}
use Rattle.profile_count.specs.ProfileText.{profile_of_lines}
use Rattle.tuner_theory.specs.{Best.{IsBest}, Profiles.{Profile as Counted}, RefusalText.{shown_refusal}, Served.{served}}
use Rattle.tuner_theory.specs.{Sheets.{IsVerdict, Sheet}, declared.verdict.Refusal.{Refusal}, declared.verdict.Verdict.{Verdict}}
use Rattle.tuner_theory.specs.declared.verdict.Verdict.TheVariants.{Optimal, Refused}
use Rattle.mte_engine.specs.{Outcome.{Answer}, Parts.{AnswersPart, both_parts, lacking, profile_part, whole_sheet_part}}
use Rattle.mte_engine.specs.declared.{engine.Status.TheVariants.{Done, No}, fault.InputFault.{InputFault}}
use Rattle.tool_call.specs.declared.options.Options.{Options}

-- The claim, where the options ask for it.
abbrev pub claim_asked : Options → Claim → Option Claim
claim_asked options claim = if options.claim == 0 then None else Some claim

-- `optimal`, and the line of a claim.
abbrev pub optimal_text : Option Claim → List ℕ
optimal_text None = ended (codes "optimal")
optimal_text (Some claim) = ended (codes "optimal") ++ ended (shown_claim claim)

-- `optimal` with the claim; or `refused` and what is shown of the refusal, with the status of a no.
abbrev pub verdict_text_by : (Refusal → List ℕ) → Option Claim → Verdict → Answer
verdict_text_by shown claim Optimal = record { text = optimal_text claim; status = Done }
verdict_text_by shown claim (Refused refusal) = record { text = ended (codes "refused " ++ shown refusal); status = No }

-- `optimal`, or `refused CODE NAME`.
abbrev pub verdict_text : Option Claim → Verdict → Answer
verdict_text claim verdict = verdict_text_by shown_refusal claim verdict

-- The verdict on a sheet for a profile. It is `Optimal` only where the sheet's table is a best one.
pub record IsJudged (options : Options) (sheet : Sheet) (profile : Counted) (verdict : Verdict) : Type 0 where
  pub is_verdict : IsVerdict profile.counts sheet verdict
  pub best : verdict ≡ Optimal → IsBest (served sheet.forced profile.counts) sheet.step sheet.limit sheet.table

-- Its text.
abbrev pub IsChecked : Options → Sheet × Counted → Answer → Type 0
IsChecked options parts answer =
    (verdict : Verdict) × IsJudged options parts.0 parts.1 verdict
    × (answer ≡ verdict_text (claim_asked options (profile_claim parts.0 parts.1)) verdict)

-- The lines of a sheet and those that are left of its text, and the lines of a profile, which come after this many of their input. The
-- answer is the verdict, or the first fault of the two.
abbrev pub ChecksParts : Options → (sheet others : List (List ℕ)) → ℕ → List (List ℕ) → Result Answer InputFault → Type 0
ChecksParts options sheet others before ls answer =
    AnswersPart (both_parts (whole_sheet_part Waste sheet others) (profile_part before (profile_of_lines ls))) (IsChecked options) answer

-- A sheet and a profile in one text: the sheet is its leading lines;
abbrev pub leading_sheet : List (List ℕ) → Result (Sheet × Counted) InputFault
leading_sheet ls =
    both_parts (whole_sheet_part Waste (leading_lines ls) []) (profile_part (length (leading_lines ls)) (profile_of_lines (lines_after ls)))

-- or it is so many of its first lines.
abbrev pub sheet_at_border : ℕ → List (List ℕ) → Result (Sheet × Counted) InputFault
sheet_at_border border ls =
    both_parts (whole_sheet_part Waste (leading_lines (take border ls)) (lines_after (take border ls) ++ lacking border ls))
    (profile_part border (profile_of_lines (drop border ls)))

-- By the border, which is 0 where none is said.
abbrev pub sheet_and_profile : ℕ → List (List ℕ) → Result (Sheet × Counted) InputFault
sheet_and_profile border ls = if nat_lt 0 border then sheet_at_border border ls else leading_sheet ls

-- One text.
abbrev pub check_answers : Options → List ℕ → Result Answer InputFault → Type 0
check_answers options text answer = AnswersPart (sheet_and_profile options.first_lines (lines text)) (IsChecked options) answer

-- Two, of which the first is a sheet and nothing else.
abbrev pub check_on_answers : Options → List ℕ → List ℕ → Result Answer InputFault → Type 0
check_on_answers options first text answer =
    ChecksParts options (leading_lines (lines first)) (lines_after (lines first)) 0 (lines text) answer

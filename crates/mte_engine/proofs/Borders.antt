-- A first text that the options cut off.
use Rattle.std.proofs.Common.{◌≡◌, ◌+◌, ℕ, suc, Bool, true, false, List, [], ◌∷◌, ◌++◌, drop, length, nat_lt, take, Result, Ok, Err, refl, arith}
use Rattle.std.proofs.{Common.{MatchBool, ap, if◌then◌else◌, slice_index_or, subst, sym, zero}, lemmas.Bool.{lt-ltb}}
use Rattle.std.proofs.lemmas.List.{append-nil}
use Rattle.class_table.specs.{ClassLine.{table_of_line}, declared.fault.TableError.TheVariants.{BadLine}}
use Rattle.line_text.specs.Lines.{lines, words}
use Rattle.potential_check.specs.Footprints.Timelines.MomentsLine.{moments_of}
use Rattle.mte_engine.proofs.{TableParts.{class_refused}, TwoParts.{one_answers, other_answers, others_refused, part_refused}}
use Rattle.mte_engine.specs.{CheckFitOver.{begins_moments, moments_part, whole_moments_part}, Outcome.{Answer, GivesAnswer, GivesFault}}
use Rattle.potential_check.specs.Leading.{leading_lines, lines_after}
use Rattle.tool_call.specs.declared.options.Options.{Options}
use Rattle.tuner_theory.specs.{Profiles.{Profile as Counted}, Sheets.{Sheet}}
use Rattle.mte_engine.specs.{Check.{IsChecked, leading_sheet, sheet_at_border}, CheckFit.{IsFitChecked, fit_with_history}}
use Rattle.mte_engine.specs.CheckFitOver.{CheckFitAtBorder, CheckFitEitherAnswers, IsCheckedOver, check_fit_answers, fit_with_timeline}
use Rattle.mte_engine.specs.Parts.{AfterLine, AfterTable, AnswersPart, AtBorder, EndsPart, GivesPart, alone, class_part, lacking, table_part}
use Rattle.mte_engine.specs.declared.engine.Status.{Status}
use Rattle.mte_engine.specs.declared.fault.{AnswerError.{AnswerError}, AnswerError.TheVariants.{Input}, InputFault.{InputFault}}
use Rattle.mte_engine.specs.declared.fault.InputFault.TheVariants.{BadFit, Table}

-- ---- a line that lacks

-- it names no moments
pub begins-lacking : (border : ℕ) (ls others : List (List ℕ)) → begins_moments (others ++ lacking border ls) ≡ begins_moments others
unfolding words
begins-lacking border ls (line ∷ others) = refl
begins-lacking border ls [] = by (nat_lt (length ls) border)
  where
    by : (lacks : Bool) → begins_moments (if lacks then [] ∷ [] else []) ≡ false
    by true = refl
    by false = refl

-- Several lines are no class line.
pub class_of_several : (border : ℕ) (ls : List (List ℕ)) → nat_lt 1 border ≡ true
    → class_part (take border ls ++ lacking border ls) ≡ alone (table_part (table_of_line (slice_index_or ls 0 []))) ([] ∷ []) (Table BadLine)
unfolding table_of_line words
class_of_several (suc (suc border)) [] several = rw (lt-ltb 0 (suc (suc border)) (omega arith)) refl
class_of_several (suc (suc border)) (line ∷ []) several = rw (lt-ltb 1 (suc (suc border)) (omega arith)) refl
class_of_several (suc (suc border)) (line ∷ next ∷ ls) several = refl
class_of_several (suc zero) ls several = absurd cc
class_of_several zero ls several = absurd cc

module _ (after : List ℕ → ℕ → List (List ℕ) → Result Answer InputFault → Type 0) (border : ℕ) (text : List ℕ) where
  abbrev at_several : Result Answer InputFault → Type 0
  at_several = AfterTable after (take border (lines text) ++ lacking border (lines text)) border (drop border (lines text))

  -- one line
  pub at_first_line : {O : Type 0} (left : O → List ℕ) (result : Result (O × Status) AnswerError) → nat_lt 1 border ≡ false
      → GivesAnswer left (AfterLine after text) result → GivesAnswer left (AtBorder border after text) result
  at_first_line left result one given = other_answers left at_several (AfterLine after text) (nat_lt 1 border) one result given

-- several
module _ (after : List ℕ → ℕ → List (List ℕ) → Result Answer InputFault → Type 0) (border : ℕ) (text : List ℕ) (several : nat_lt 1 border ≡ true) where
  pub several_refused : (line : List ℕ) → line ≡ slice_index_or (lines text) 0 [] → (error : AnswerError)
      → GivesPart {A = List ℕ} (Err error) (alone (table_part (table_of_line line)) ([] ∷ []) (Table BadLine))
      → GivesFault (AtBorder border after text) error
  several_refused line is error gives =
      let ls = lines text in
      let given : GivesPart {A = List ℕ} (Err error) (class_part (take border ls ++ lacking border ls)) =
      subst (λ (part : Result (List ℕ) InputFault). GivesPart {A = List ℕ} (Err error) part) (sym (class_of_several border ls several))
      (rw is at gives) in
      one_answers {O = List ℕ} (λ written. written) (at_several after border text) (AfterLine after text) (nat_lt 1 border) several (Err error)
      (class_refused after (take border ls ++ lacking border ls) border (drop border ls) error given)

  pub no_lines_refused : lines text ≡ [] → GivesFault (AtBorder border after text) (Input (Table BadLine))
  unfolding table_of_line words
  no_lines_refused none = several_refused [] (rw none refl) (Input (Table BadLine)) refl

-- ---- moments, after which a line may lack

module _ (before : ℕ) (border : ℕ) (all : List (List ℕ)) where
  -- the line that lacks, or none
  abbrev lacks : Bool → List (List ℕ)
  lacks is = if is then [] ∷ [] else []

  -- a fault of them comes first
  refused_by : (is : Bool) (ls : List (List ℕ)) (error : AnswerError) → GivesPart {A = List ℕ} (Err error) (whole_moments_part before ls)
      → GivesPart {A = List ℕ} (Err error) (whole_moments_part before (ls ++ lacks is))
  unfolding words
  refused_by false ls error gives = rw (append-nil ls) gives
  refused_by true [] error gives = gives
  refused_by true (line ∷ []) error gives =
      part_refused (moments_part (before + 1) (moments_of line)) (BadFit (before + 2)) ([] ∷ []) error gives
  refused_by true (line ∷ next ∷ ls) error gives = gives

  pub moments_refused : (ls : List (List ℕ)) (error : AnswerError) → GivesPart {A = List ℕ} (Err error) (whole_moments_part before ls)
      → GivesPart {A = List ℕ} (Err error) (whole_moments_part before (ls ++ lacking border all))
  moments_refused = refused_by (nat_lt (length all) border)

  -- then the line that lacks
  lacking_by : (is : Bool) (ls : List (List ℕ)) (numbers : List ℕ) (error : AnswerError) → whole_moments_part before ls ≡ Ok numbers
      → EndsPart (lacks is) (BadFit (before + 2)) (Err error) → GivesPart {A = List ℕ} (Err error) (whole_moments_part before (ls ++ lacks is))
  lacking_by false ls numbers error read ended = absurd (ended.0 refl)
  lacking_by true [] numbers error read ended = absurd cc
  lacking_by true (line ∷ []) numbers error read ended =
      others_refused (moments_part (before + 1) (moments_of line)) (BadFit (before + 2)) numbers ([] ∷ []) error read ended
  lacking_by true (line ∷ next ∷ ls) numbers error read ended = absurd (no_others (moments_part (before + 1) (moments_of line)) read)
    where
      no_others : (part : Result (List ℕ) InputFault) → alone part (next ∷ ls) (BadFit (before + 2)) ≡ Ok numbers → ⊥
      no_others (Ok found) is = cc
      no_others (Err fault) is = cc

  pub moments_lacking : (ls : List (List ℕ)) (numbers : List ℕ) (error : AnswerError) → whole_moments_part before ls ≡ Ok numbers
      → EndsPart (lines [] ++ lacking border all) (BadFit (before + 2)) (Err error)
      → GivesPart {A = List ℕ} (Err error) (whole_moments_part before (ls ++ lacking border all))
  unfolding lines
  moments_lacking = lacking_by (nat_lt (length all) border)

  pub moments_read : (ls : List (List ℕ)) (numbers : List ℕ) → whole_moments_part before ls ≡ Ok numbers → lines [] ++ lacking border all ≡ []
      → whole_moments_part before (ls ++ lacking border all) ≡ Ok numbers
  unfolding lines
  moments_read ls numbers read none = rw (none, append-nil ls) read

-- ---- a certificate, by the border that the options say

module _ (options : Options) (ls : List (List ℕ)) where
  -- the sheet and the profile
  abbrev sheet_by : Bool → Result (Sheet × Counted) InputFault
  sheet_by is = if is then sheet_at_border options.first_lines ls else leading_sheet ls

  abbrev given_by : {O : Type 0} → (O → List ℕ) → Result (O × Status) AnswerError → Bool → Type 0
  given_by left result is = GivesAnswer left (AnswersPart (sheet_by is) (IsChecked options)) result

  pub part_at_border : {O : Type 0} (left : O → List ℕ) (result : Result (O × Status) AnswerError) → nat_lt 0 options.first_lines ≡ true
      → given_by left result true → given_by left result (nat_lt 0 options.first_lines)
  part_at_border left result is given = subst (given_by left result) (sym is) given

  pub leading_part : {O : Type 0} (left : O → List ℕ) (result : Result (O × Status) AnswerError) → nat_lt 0 options.first_lines ≡ false
      → given_by left result false → given_by left result (nat_lt 0 options.first_lines)
  leading_part left result is given = subst (given_by left result) (sym is) given

module _ (options : Options) where
  abbrev border : ℕ
  border = options.first_lines

  -- the fit, and what comes after it
  abbrev fit_by : Bool → List ℕ → Result Answer InputFault → Type 0
  fit_by is text answer =
      let ls = lines text in
      let first = take border ls in
      let others = lines_after first ++ lacking border ls in
      MatchBool (if is then begins_moments others else begins_moments (lines_after ls))
      (AnswersPart (if is
      then fit_with_timeline (leading_lines first) others border (drop border ls)
      else fit_with_timeline (leading_lines ls) (take 1 (lines_after ls)) (length (leading_lines ls) + 1) (drop 1 (lines_after ls)))
      (λ parts. IsCheckedOver options parts.0 parts.1.0 parts.1.1) answer)
      (AnswersPart (if is
      then fit_with_history (leading_lines first) others border (drop border ls)
      else fit_with_history (leading_lines ls) [] (length (leading_lines ls)) (lines_after ls))
      (λ parts. IsFitChecked options parts.0 parts.1) answer)

  pub fit_at_border : nat_lt 0 options.first_lines ≡ true → check_fit_answers options ≡ CheckFitAtBorder options options.first_lines
  fit_at_border is = ap fit_by is

  pub leading_fit : nat_lt 0 options.first_lines ≡ false → check_fit_answers options ≡ CheckFitEitherAnswers options
  leading_fit is = ap fit_by is

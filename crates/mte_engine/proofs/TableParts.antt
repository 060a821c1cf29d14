-- From a class line and what comes after it to the answer, in one text or in two.
use Rattle.std.proofs.Common.{◌≡◌, ℕ, List, [], ◌∷◌, drop, take, Result, Ok, Err, refl, slice_index_or}
use Rattle.class_table.specs.{ClassLine.{table_of_line}, declared.fault.TableError.TheVariants.{BadLine}}
use Rattle.line_text.specs.Lines.{lines, words}
use Rattle.mte_engine.specs.Outcome.{Answer, GivesAnswer, GivesFault}
use Rattle.mte_engine.specs.Parts.{AfterLine, AfterTable, GivesPart, class_part, table_part}
use Rattle.mte_engine.specs.declared.{engine.Status.{Status}, fault.AnswerError.{AnswerError}, fault.InputFault.{InputFault}}
use Rattle.mte_engine.specs.declared.fault.{AnswerError.TheVariants.{OutOfMemory, Input}, InputFault.TheVariants.{Table}}

module _ (after : List ℕ → ℕ → List (List ℕ) → Result Answer InputFault → Type 0) where
  module _ (class : List (List ℕ)) (before : ℕ) (ls : List (List ℕ)) where
    pub class_refused : (error : AnswerError) → GivesPart {A = List ℕ} (Err error) (class_part class)
        → GivesFault (AfterTable after class before ls) error
    class_refused OutOfMemory gives = tt
    class_refused (Input fault) gives = rw gives refl

    pub table_given : {O : Type 0} (left : O → List ℕ) (table : List ℕ) → class_part class ≡ Ok table
        → (result : Result (O × Status) AnswerError) → GivesAnswer left (after table before ls) result
        → GivesAnswer left (AfterTable after class before ls) result
    table_given left table read (Ok answered) gives = rw read gives
    table_given left table read (Err OutOfMemory) gives = tt
    table_given left table read (Err (Input fault)) gives = rw read gives

  -- an empty line spells no table, so an input without lines is answered as one of an empty line
  by_first_line : {O : Type 0} (left : O → List ℕ) (ls : List (List ℕ)) (result : Result (O × Status) AnswerError)
      → GivesAnswer left (AfterTable after (slice_index_or ls 0 [] ∷ []) 1 (drop 1 ls)) result
      → GivesAnswer left (AfterTable after (take 1 ls) 1 (drop 1 ls)) result
  unfolding table_of_line words
  by_first_line left [] result gives = gives
  by_first_line left (line ∷ ls) result gives = gives

  pub no_line : (text : List ℕ) → lines text ≡ [] → AfterLine after text (Err (Table BadLine))
  no_line text none = rw none refl

  -- the class line before them in one text
  module _ (bytes line : List ℕ) (is : line ≡ slice_index_or (lines bytes) 0 []) where
    pub line_refused : (error : AnswerError) → GivesPart {A = List ℕ} (Err error) (table_part (table_of_line line))
        → GivesFault (AfterLine after bytes) error
    line_refused error gives =
        let refused = class_refused (line ∷ []) 1 (drop 1 (lines bytes)) error gives in
        by_first_line {O = List ℕ} (λ text. text) (lines bytes) (Err error) (rw is at refused)

    pub line_given : {O : Type 0} (left : O → List ℕ) (table : List ℕ) → table_part (table_of_line line) ≡ Ok table
        → (rest : List ℕ) → lines rest ≡ drop 1 (lines bytes) → (result : Result (O × Status) AnswerError)
        → GivesAnswer left (after table 1 (lines rest)) result → GivesAnswer left (AfterLine after bytes) result
    line_given left table read rest others result gives =
        let given = table_given (line ∷ []) 1 (lines rest) left table read result gives in
        by_first_line left (lines bytes) result (rw (is, others) at given)

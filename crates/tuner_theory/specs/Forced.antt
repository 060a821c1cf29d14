-- What a certificate with a forced class shows: the best of the tables that have the largest class, and so serve each size that any table can.
use Rattle.std.specs.Prelude.{ℕ, ◌≤◌, List, Contains}
use Rattle.class_table.specs.declared.sizes.TheConstants.{LARGEST_CLASS}
use Rattle.tuner_theory.specs.Best.{IsCandidate}

-- No table in question that has the largest class costs less, and this one has it.
pub record IsBestWithLargest (cost : List ℕ → ℕ) (counts : List ℕ) (step limit : ℕ) (classes : List ℕ) : Type 0 where
  pub candidate : IsCandidate counts step limit classes
  pub largest : Contains classes LARGEST_CLASS
  pub least : (other : List ℕ) → IsCandidate counts step limit other → Contains other LARGEST_CLASS → cost classes ≤ cost other

-- The best tables for a profile, and the one that is chosen of them. `counts` is how often each size was requested.
use Rattle.std.specs.Prelude.{◌≡◌, ℕ, ◌<◌, ◌≤◌, ◌⊎◌, List, [], ◌∷◌, length, Some, All, ⊤}
use Rattle.class_table.specs.Tables.{IsLegalTable, class_for}
use Rattle.tuner_theory.specs.{Profiles.{IsCounted}, Waste.{Serves, waste_of}}

-- A table in question: legal for the step, of at most `limit` classes, and with a class for each counted size.
pub record IsCandidate (counts : List ℕ) (step limit : ℕ) (classes : List ℕ) : Type 0 where
  pub legal : IsLegalTable step classes
  pub few : length classes ≤ limit
  pub serving : Serves counts classes

-- A best table by a cost of tables: no table in question costs less.
pub record IsBestBy (cost : List ℕ → ℕ) (counts : List ℕ) (step limit : ℕ) (classes : List ℕ) : Type 0 where
  pub candidate : IsCandidate counts step limit classes
  pub least : (other : List ℕ) → IsCandidate counts step limit other → cost classes ≤ cost other

-- A best table: no table in question wastes less.
abbrev pub IsBest : List ℕ → ℕ → ℕ → List ℕ → Type 0
IsBest counts step limit classes = IsBestBy (waste_of counts) counts step limit classes

-- Requests of some size were counted, and this is their class.
abbrev pub IsUsed : List ℕ → List ℕ → ℕ → Type 0
IsUsed counts classes class = (n : ℕ) × IsCounted counts n × (class_for classes n ≡ Some class)

-- The order of tables by their first class that differs; a table comes before those that it begins.
abbrev pub IsLexicographicallyAtMost : List ℕ → List ℕ → Type 0
IsLexicographicallyAtMost [] ys = ⊤
IsLexicographicallyAtMost (x ∷ xs) [] = ⊥
IsLexicographicallyAtMost (x ∷ xs) (y ∷ ys) = (x < y) ⊎ ((x ≡ y) × IsLexicographicallyAtMost xs ys)

-- The canonical table by a cost: of the best tables whose every class is used, the lexicographically least.
pub record IsCanonicalBy (cost : List ℕ → ℕ) (counts : List ℕ) (step limit : ℕ) (classes : List ℕ) : Type 0 where
  pub best : IsBestBy cost counts step limit classes
  pub used : All (IsUsed counts classes) classes
  pub least : (other : List ℕ) → IsBestBy cost counts step limit other → All (IsUsed counts other) other
      → IsLexicographicallyAtMost classes other

-- The canonical table by the waste.
abbrev pub IsCanonical : List ℕ → ℕ → ℕ → List ℕ → Type 0
IsCanonical counts step limit classes = IsCanonicalBy (waste_of counts) counts step limit classes

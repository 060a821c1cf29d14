-- Costs that grow with their spans.
use Rattle.std.specs.Prelude.{ℕ, ◌<◌, ◌≤◌}

-- A span within another one costs no more.
abbrev pub IsGrowing : (ℕ → ℕ → ℕ) → ℕ → Type 0
IsGrowing cost d = (a i j b : ℕ) → a ≤ i → i < j → j ≤ b → b ≤ d → cost i j ≤ cost a b

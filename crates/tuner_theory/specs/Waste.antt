-- The waste of a table: the bytes that its classes lose by rounding the counted requests up.
use Rattle.std.specs.Prelude.{ℕ, zero, suc, ◌+◌, ◌*◌, List, length, slice_index, unwrap_or, IsSome}
use Rattle.class_table.specs.{Sizes.{loss_of}, Tables.{class_for}}
use Rattle.tuner_theory.specs.Profiles.{IsCounted}

-- The sum of f over the numbers below n.
unfoldable pub sum_below : (ℕ → ℕ) → ℕ → ℕ
sum_below f zero = 0
sum_below f (suc n) = sum_below f n + f n

-- A table serves a profile where each counted size has a class.
abbrev pub Serves : List ℕ → List ℕ → Type 0
Serves counts classes = (n : ℕ) → IsCounted counts n → IsSome (class_for classes n)

-- What all requests of n bytes together lose in the class of n; nothing where it has none.
abbrev pub waste_at : List ℕ → List ℕ → ℕ → ℕ
waste_at counts classes n = slice_index counts n * loss_of n (unwrap_or (class_for classes n) 0)

-- The waste: what all counted requests lose in the classes of their sizes, each size as often as it was counted.
abbrev pub waste_of : List ℕ → List ℕ → ℕ
waste_of counts classes = sum_below (waste_at counts classes) (length counts)

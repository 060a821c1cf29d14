-- Profiles: what was counted of the requests of a program.
use Rattle.std.specs.Prelude.{◌≡◌, ℕ, ◌+◌, ◌<◌, ◌≤◌, List, length, slice_index, All}
use Rattle.class_table.specs.Sizes.{largest_counted}
use Rattle.tuner_theory.specs.declared.greatest_count.TheConstants.{GREATEST_COUNT}

-- What was counted: how often each size was requested, by its index from 0 bytes on, and how often a size past the last one.
pub record Profile : Type 0 where
  pub counts : List ℕ
  pub large : ℕ

-- The greatest count.
abbrev pub greatest_count : ℕ
greatest_count = GREATEST_COUNT

-- Counts as a profile keeps them: of each size up to the largest that is counted.
pub record AreCounts (counts : List ℕ) : Type 0 where
  pub sizes : length counts ≡ largest_counted + 1
  pub in_range : All (λ count. count ≤ greatest_count) counts

pub record IsProfile (profile : Profile) : Type 0 where
  pub counts : AreCounts profile.counts
  pub large : profile.large ≤ greatest_count

-- Requests of n bytes were counted.
abbrev pub IsCounted : List ℕ → ℕ → Type 0
IsCounted counts n = (n < length counts) × (0 < slice_index counts n)

-- Each size that is counted in the fewer is counted in the more.
abbrev pub Covers : List ℕ → List ℕ → Type 0
Covers more fewer = (n : ℕ) → IsCounted fewer n → IsCounted more n

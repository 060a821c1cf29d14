-- Blocks of ends, and the bounds by which they are passed over.
use Rattle.std.specs.Prelude.{◌≡◌, ◌⊎◌, ℕ, ◌+◌, ◌-◌, ◌*◌, ◌/◌, ◌^◌, ◌<◌, ◌≤◌, List, [], length, replicate, slice_index, slice_index_or}
use Rattle.potential_check.specs.declared.footprints.slack.TheConstants.{BLOCK}

-- Each block of ends has a slack.
pub record IsSlack (d : ℕ) (slack : List ℕ) : Type 0 where
  pub long : d < BLOCK * length slack
  pub small : (b : ℕ) → slice_index slack b ≤ 2 ^ 60

-- Each block has a bound: no end after the place, by what the row before has, costs less than the bound without the slack. Blocks that
-- begin at the place or before it have none yet.
pub record AreBounds (costs slack : List ℕ) (place d : ℕ) (before : ℕ → ℕ) (bounds : List ℕ) : Type 0 where
  pub long : d < BLOCK * length bounds
  pub below : (j : ℕ) → place < j → j < d
      → slice_index bounds (j / BLOCK) ≤ slice_index costs j + before j + slice_index slack (j / BLOCK)
  pub none : (b : ℕ) → b ≤ place / BLOCK → slice_index bounds b ≡ 0

-- Each row that has a row before it has bounds.
pub record AreRowBounds (costs slack : List ℕ) (place d limit : ℕ) (rows : ℕ → ℕ → ℕ) (bounds : List (List ℕ)) : Type 0 where
  pub size : length bounds ≡ limit
  pub each : (k : ℕ) → 1 ≤ k → k < limit → AreBounds costs slack place d (rows k) (slice_index_or bounds k [])

-- So many lists of so many zeros.
pub record AreZeros (limit blocks : ℕ) (lists : List (List ℕ)) : Type 0 where
  pub size : length lists ≡ limit
  pub each : (k : ℕ) → k < limit → slice_index_or lists k [] ≡ replicate blocks 0

-- What the tests begin with: costs from no place, some slack of each block, and no bounds.
pub record IsFresh (limit d : ℕ) (from older slack : List ℕ) (bounds : List (List ℕ)) : Type 0 where
  pub from_length : length from ≡ d + 1
  pub older_length : length older ≡ d + 1
  pub is_slack : IsSlack d slack
  pub none : AreZeros limit (d / BLOCK + 1) bounds

-- The slack at a place, by that at the next one: what the cost of an end has grown covers what its block has lost. A block that begins after
-- the next place has lost what the cost of one of its ends has grown. The others have lost nothing.
pub record IsNarrowed (older costs : List ℕ) (place d : ℕ) (old new : List ℕ) : Type 0 where
  pub size : length new ≡ length old
  pub less : (b : ℕ) → slice_index new b ≤ slice_index old b
  pub grown : (j : ℕ) → place + 1 < j → j < d
      → slice_index older j + slice_index old (j / BLOCK) ≤ slice_index costs j + slice_index new (j / BLOCK)
  pub lost : (b : ℕ) → place + 1 < BLOCK * b → BLOCK * b < d
      → (j : ℕ) × (j < d) × (j / BLOCK ≡ b) × (slice_index new b ≡ slice_index old b - (slice_index costs j - slice_index older j))
  pub kept : (b : ℕ) → (BLOCK * b ≤ place + 1) ⊎ (d ≤ BLOCK * b) → slice_index new b ≡ slice_index old b

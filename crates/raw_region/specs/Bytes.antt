-- A list of bytes: the word at a place, and a run that is written.
use Rattle.std.specs.Int.{w64, from_le_bytes}
use Rattle.std.specs.Prelude.{◌≡◌, ℕ, ◌+◌, ◌<◌, ◌≤◌, ◌⊎◌, List, ◌++◌, length, take, drop, slice_index, slice_range}

-- the eight bytes from place i on as a number, the lowest byte first
unfoldable pub word_at : List ℕ → ℕ → ℕ
word_at bytes i = from_le_bytes w64 (slice_range bytes i (i + 8))

-- the bytes with `new` in place of as many from place i on
abbrev pub with_bytes : List ℕ → ℕ → List ℕ → List ℕ
with_bytes bytes i new = take i bytes ++ new ++ drop (i + length new) bytes

-- only the bytes from place `from` on and below `to` may have changed
pub record ChangesOnly (old new : List ℕ) (from to : ℕ) : Type 0 where
  pub len : length new ≡ length old
  pub before : (j : ℕ) → j ≤ from → take j new ≡ take j old
  pub after : (j : ℕ) → to ≤ j → drop j new ≡ drop j old
  pub byte : (k : ℕ) → (k < from) ⊎ (to ≤ k) → slice_index new k ≡ slice_index old k
  pub word : (k : ℕ) → (k + 8 ≤ from) ⊎ (to ≤ k) → word_at new k ≡ word_at old k

-- What stays the same under a change of tags or bytes.
use Rattle.std.specs.Prelude.{◌≡◌, ℕ, ◌+◌, ◌*◌, ◌<◌, ◌≤◌, ◌⊎◌, List, length}
use Rattle.machine_theory.specs.{Memory.{Granule, granule_at, tag_at, byte_at, word_at}, declared.sizes.TheConstants.{GRANULE_BYTES}}

-- all tags, and the bytes before `from` and from `to` on, are the same
pub record ChangesOnlyBytes (old new : List Granule) (from to : ℕ) : Type 0 where
  pub len : length new ≡ length old
  pub tag : (g : ℕ) → tag_at new g ≡ tag_at old g
  pub byte : (k : ℕ) → (k < from) ⊎ (to ≤ k) → byte_at new k ≡ byte_at old k
  pub word : (k : ℕ) → (k + 8 ≤ from) ⊎ (to ≤ k) → word_at new k ≡ word_at old k
  pub granule : (g : ℕ) → (GRANULE_BYTES * g + GRANULE_BYTES ≤ from) ⊎ (to ≤ GRANULE_BYTES * g) → granule_at new g ≡ granule_at old g

-- all bytes, and the granules before `from` and from `to` on, are the same
pub record ChangesOnlyTags (old new : List Granule) (from to : ℕ) : Type 0 where
  pub len : length new ≡ length old
  pub byte : (k : ℕ) → byte_at new k ≡ byte_at old k
  pub word : (k : ℕ) → word_at new k ≡ word_at old k
  pub bytes : (g : ℕ) → (granule_at new g).bytes ≡ (granule_at old g).bytes
  pub granule : (g : ℕ) → (g < from) ⊎ (to ≤ g) → granule_at new g ≡ granule_at old g

-- Where two lists have the same bytes, their granules have the same tags and bytes.
use Rattle.std.proofs.Common.{◌≡◌, ℕ, ◌+◌, ◌*◌, ◌<◌, ◌≤◌, List, length, sym, ap, ◌∙◌, arith, slice_range}
use Rattle.std.proofs.{Common.{slice_index, ◌⊎◌}, lemmas.Grind.{same_number_lists}}
use Rattle.std.specs.Int.{w64, from_le_bytes}
use Rattle.machine_theory.{proofs.ByteLaws.{bytes_at_agree}, specs.Memory.{Granule, granule_at, tag_at, byte_at, word_at}}
use Rattle.granule_memory.proofs.Granules.{granules_counted, granule_is, granule_past, tag_is, byte_is, slice_range_byte, slice_range_long}
use Rattle.granule_memory.specs.{BytesOfGranules.{granules_of}, Changes.{ChangesOnlyBytes, ChangesOnlyTags}}

module _ (xs ys : List ℕ) (count : ℕ) (long : length xs ≡ 17 * count) (same_length : length ys ≡ length xs) where
  abbrev old : List Granule
  old = granules_of xs count

  abbrev new : List Granule
  new = granules_of ys count

  abbrev SameAt : ℕ → Type 0
  SameAt k = slice_index ys k ≡ slice_index xs k

  both_past : (g : ℕ) → count ≤ g → granule_at new g ≡ granule_at old g
  both_past g past = granule_past ys count g past ∙ sym (granule_past xs count g past)

  same_tag : (g : ℕ) → (g < count → SameAt (16 * count + g)) → tag_at new g ≡ tag_at old g
  same_tag g same = grind (arith, tag_is, both_past)

  same_word : (k : ℕ) → ((j : ℕ) → j < 8 → byte_at new (k + j) ≡ byte_at old (k + j)) → word_at new k ≡ word_at old k
  unfolding word_at
  same_word k same = ap (from_le_bytes w64) (bytes_at_agree new old k 8 same)

  same_bytes : (g : ℕ) → ((j : ℕ) → j < 16 → g < count → SameAt (16 * g + j)) → (granule_at new g).bytes ≡ (granule_at old g).bytes
  same_bytes g same = grind (arith, granule_is, range, both_past)
    where
      range : g < count → slice_range ys (16 * g) (16 * g + 16) ≡ slice_range xs (16 * g) (16 * g + 16)
      range h =
          let sixteen : length (slice_range ys (16 * g) (16 * g + 16)) ≡ 16 = slice_range_long ys (16 * g) 16 (omega arith) in
          grind (arith, same_number_lists, slice_range_long, slice_range_byte)

  pub changes_bytes : (from to : ℕ) → to ≤ 16 * count → ((k : ℕ) → (k < from) ⊎ (to ≤ k) → SameAt k) → ChangesOnlyBytes old new from to
  changes_bytes from to within same = grind (arith, granules_counted, byte_is, same_word, same_bytes, same_tag)

  pub changes_tags : (from to : ℕ) → ((k : ℕ) → (k < 16 * count + from) ⊎ (16 * count + to ≤ k) → SameAt k) →
      ChangesOnlyTags old new from to
  changes_tags from to same = grind (arith, granules_counted, same_word, same_tag, same_bytes)

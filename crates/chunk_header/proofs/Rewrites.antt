-- What is written where it was read changes nothing.
use Rattle.std.proofs.Common.{◌≡◌, ℕ, ◌+◌, ◌*◌, ◌/◌, ◌<◌, List, length, get_or, refl, sym, ap, ◌∙◌}
use Rattle.std.proofs.{Common.{arith, slice_index}, lemmas.List.FromFn.{fill_by_all}, lemmas.Nat.{le_bytes_8}}
use Rattle.std.specs.Int.{w64, to_le_bytes}
use Rattle.granule_memory.specs.Changes.{ChangesOnlyBytes}
use Rattle.machine_theory.proofs.ByteLaws.{byte_below, bytes_at-below, get_or-bytes_at, length-bytes_at}
use Rattle.machine_theory.specs.Memory.{Granule, IsGranule, IsMemory, no_granule, granule_at, byte_at, bytes_at, word_at, written}
use Rattle.machine_theory.specs.Memory.{byte_after, bytes_after}
use Rattle.machine_theory.specs.Memory as memory_words

module _ (memory : List Granule) (is : IsMemory memory) (i len : ℕ) where
  abbrev run : List ℕ
  run = bytes_at memory i len

  run_long : length run ≡ len
  run_long = length-bytes_at memory i len

  run_byte : (k j : ℕ) → k < len → j ≡ i + k → get_or run k 0 ≡ byte_at memory j
  run_byte k j inside at = get_or-bytes_at memory i len k inside ∙ ap (byte_at memory) (sym at)

  -- each byte of the run is written over itself
  same_byte : (j : ℕ) → byte_after i run j (byte_at memory j) ≡ byte_at memory j
  same_byte j = grind (arith, run_byte, run_long)

  same_bytes : (g : ℕ) → g < length memory → (granule_at memory g).bytes ≡ bytes_after i run g (granule_at memory g).bytes
  same_bytes g among =
      let bytes = (granule_at memory g).bytes in
      let granule : IsGranule (granule_at memory g) = is.granules g no_granule among in
      fill_by_all (λ k. byte_after i run (16 * g + k) (slice_index bytes k)) bytes (length bytes) 0 refl
      (grind (arith, byte_in, same_byte))
    where
      byte_in : (g k : ℕ) → k < 16 → byte_at memory (16 * g + k) ≡ slice_index (granule_at memory g).bytes k
      byte_in g k below =
          let granule_is : (16 * g + k) / 16 ≡ g = omega arith in
          grind arith

  pub written_over : written i run memory ≡ memory
  unfolding written memory_words.each_granule
  written_over =
      sym (fill_by_all (λ g. record (granule_at memory g) { bytes = bytes_after i run g (granule_at memory g).bytes }) memory
      (length memory) no_granule refl
      (λ g h. ap (λ (bytes : List ℕ). record (granule_at memory g) { bytes = bytes }) (same_bytes g h)))

pub word_written_over : (memory : List Granule) (i : ℕ) → IsMemory memory → written i (to_le_bytes w64 (word_at memory i)) memory ≡ memory
unfolding word_at
word_written_over memory i is =
    ap (λ (bytes : List ℕ). written i bytes memory)
    (le_bytes_8 (bytes_at memory i 8) (word_at memory i) (length-bytes_at memory i 8)
    (λ k. byte_below (bytes_at memory i 8) k (bytes_at-below memory i 8 is)) refl)
    ∙ written_over memory is i 8

-- two words that are written one after the other change no byte but those of their granule
pub both_words : (old half new : List Granule) (g : ℕ) → ChangesOnlyBytes old half (16 * g + 0) (16 * g + 0 + 8) →
    ChangesOnlyBytes half new (16 * g + 8) (16 * g + 8 + 8) → ChangesOnlyBytes old new (16 * g) (16 * g + 16)
both_words old half new g first second = grind arith

-- Words that are compared from one of their bytes on, and the tags that are the bytes.
use Rattle.std.proofs.Common.{◌≡◌, ℕ, zero, suc, ◌+◌, ◌-◌, ◌*◌, ◌/◌, ◌%◌, ◌^◌, ◌<◌, ◌≤◌, ◌↔◌, List, length, refl, sym, ap, ◌∙◌}
use Rattle.std.proofs.{Common.{arith, slice_range, slice_index}}
use Rattle.std.{proofs.lemmas.Nat.{le_bytes_8, pow-add}, specs.Int.{w64, from_le_bytes, to_le_bytes}}
use native.Mathlib.Nat.{div-div-eq-div-mul}
use Rattle.raw_region.specs.Bytes.{word_at}
use Rattle.granule_memory.{proofs.Granules.{slice_range_byte, slice_range_long}, specs.BytesOfGranules.{IsLaidOut}}

-- byte i of a number, the lowest first
abbrev byte_in : ℕ → ℕ → ℕ
byte_in n i = n / 2 ^ (8 * i) % 256

-- a number from byte i on is that byte and the number from the next byte on
from_byte : (n i : ℕ) → n / 2 ^ (8 * i) ≡ byte_in n i + n / 2 ^ (8 * suc i) * 256
from_byte n i =
    let next : 2 ^ (8 * suc i) ≡ 2 ^ (8 * i) * 256 = (let e : 8 * suc i ≡ 8 * i + 8 = omega arith in ap (λ (k : ℕ). 2 ^ k) e) ∙ pow-add 2 (8 * i) 8 in
    grind (arith, div-div-eq-div-mul)

-- two numbers that are the same from byte k on have the same bytes from there on
bytes_same : (n m k d : ℕ) → n / 2 ^ (8 * k) ≡ m / 2 ^ (8 * k) → byte_in n (k + d) ≡ byte_in m (k + d)
bytes_same n m k zero same = grind arith
bytes_same n m k (suc d) same = grind (arith, bytes_same n m (suc k) d, from_byte)

-- two numbers of eight bytes are the same from byte k on if these bytes are
same_from : (n m k d : ℕ) → k + d ≡ 8 → n < 2 ^ 64 → m < 2 ^ 64 → ((i : ℕ) → k ≤ i → i < 8 → byte_in n i ≡ byte_in m i) →
    n / 2 ^ (8 * k) ≡ m / 2 ^ (8 * k)
same_from n m k zero ends small few same = grind arith
same_from n m k (suc d) ends small few same =
    let rest = same_from n m (suc k) d (omega arith) small few (λ i from to. same i (omega arith) to) in
    grind (arith, from_byte)

-- byte i of the number that eight bytes spell
spelled_byte : (bs : List ℕ) (i : ℕ) → length bs ≡ 8 → ((k : ℕ) → slice_index bs k < 256) → i < 8 →
    byte_in (from_le_bytes w64 bs) i ≡ slice_index bs i
spelled_byte bs i long small inside =
    sym (digit (from_le_bytes w64 bs) i inside) ∙ ap (λ (b : List ℕ). slice_index b i) (le_bytes_8 bs (from_le_bytes w64 bs) long small refl)
  where
    digit : (n i : ℕ) → i < 8 → slice_index (to_le_bytes w64 n) i ≡ byte_in n i
    digit n zero less = omega arith
    digit n (suc zero) less = refl
    digit n (suc (suc zero)) less = refl
    digit n (suc (suc (suc zero))) less = refl
    digit n (suc (suc (suc (suc zero)))) less = refl
    digit n (suc (suc (suc (suc (suc zero))))) less = refl
    digit n (suc (suc (suc (suc (suc (suc zero)))))) less = refl
    digit n (suc (suc (suc (suc (suc (suc (suc zero))))))) less = refl
    digit n (suc (suc (suc (suc (suc (suc (suc (suc i)))))))) less = absurd (omega arith)

-- each byte of the word that has a tag in each
repeated_byte : (tag i : ℕ) → tag < 16 → i < 8 → byte_in (72340172838076673 * tag) i ≡ tag
repeated_byte tag zero small less = omega arith
repeated_byte tag (suc zero) small less = omega arith
repeated_byte tag (suc (suc zero)) small less = omega arith
repeated_byte tag (suc (suc (suc zero))) small less = omega arith
repeated_byte tag (suc (suc (suc (suc zero)))) small less = omega arith
repeated_byte tag (suc (suc (suc (suc (suc zero))))) small less = omega arith
repeated_byte tag (suc (suc (suc (suc (suc (suc zero)))))) small less = omega arith
repeated_byte tag (suc (suc (suc (suc (suc (suc (suc zero))))))) small less = omega arith
repeated_byte tag (suc (suc (suc (suc (suc (suc (suc (suc i)))))))) small less = absurd (omega arith)

-- The word that ends with the tag of granule `last` is the repeated tag, from the byte of granule `first` on, exactly if all tags from that
-- one on are that tag.
module _ (bytes : List ℕ) (count first last tag : ℕ) (laid : IsLaidOut bytes count) (order : first ≤ last) (few : last < first + 8)
    (within : last < count) (small : tag < 16) where
  abbrev at : ℕ
  at = 16 * count + last - 7

  abbrev word : ℕ
  word = from_le_bytes w64 (slice_range bytes at (at + 8))

  abbrev from : ℕ
  from = 7 - (last - first)

  fits : at + 8 ≤ length bytes
  fits = omega (arith, laid.long, within, laid.least)

  byte : (k : ℕ) → slice_index (slice_range bytes at (at + 8)) k < 256
  byte k = grind (arith, slice_range_byte)

  tag_byte : (i g : ℕ) → i < 8 → at + i ≡ 16 * count + g → byte_in word i ≡ slice_index bytes (16 * count + g)
  tag_byte i g less is = grind (arith, spelled_byte, slice_range_long, byte, slice_range_byte)

  pub tags_compared : (word_at bytes at / 2 ^ (8 * from) ≡ 72340172838076673 * tag / 2 ^ (8 * from))
      ↔ ((g : ℕ) → first ≤ g → g ≤ last → slice_index bytes (16 * count + g) ≡ tag)
  unfolding word_at
  tags_compared = (
    λ same g least most.
        let i : ℕ = from + (g - first) in
        sym (tag_byte i g (omega arith) (omega (arith, within, laid.least)))
        ∙ bytes_same word (72340172838076673 * tag) from (g - first) same ∙ repeated_byte tag i small (omega arith),
    λ each.
        same_from word (72340172838076673 * tag) from (8 - from) (omega arith) (grind (arith, byte)) (omega (arith, small))
        (λ i low high.
        tag_byte i (first + (i - from)) high (omega (arith, within, laid.least)) ∙ each (first + (i - from)) (omega arith) (omega arith)
        ∙ sym (repeated_byte tag i small high)),
  )

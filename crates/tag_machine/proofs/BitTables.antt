-- The tables of the set bits of each byte, and the set bits of a number of two bytes.
use Rattle.std.proofs.Common.{◌≡◌, ℕ, zero, suc, ◌+◌, ◌*◌, ◌/◌, ◌%◌, ◌^◌, ◌<◌, List, [], ◌∷◌, map, length, get_or, refl, sym, ap, ◌∙◌}
use Rattle.std.proofs.{Common.{arith, zero-add}, lemmas.List.FromFn.{get_or-map-range_with_len}, lemmas.Nat.{ones_cat, pow-add}}
use Rattle.std.specs.{Int.Count.{ones}, List.{range_with_len}}
use native.Mathlib.Nat.{div-div-eq-div-mul}
use Rattle.tag_machine.specs.{MaskBits.{set_bits}, declared.mask_bits.TheConstants.{COUNTS, PLACES}}

counts_are : COUNTS ≡ map ones (range_with_len 0 256)
unfolding ones
counts_are = refl

-- places in four bits each, the first one lowest
pub packed : List ℕ → ℕ
packed [] = 0
packed (place ∷ places) = place + 16 * packed places

places_are : PLACES ≡ map (λ byte. packed (set_bits byte)) (range_with_len 0 256)
unfolding set_bits packed
places_are = refl

pub count_of_byte : (byte : ℕ) → byte < 256 → get_or COUNTS byte 0 ≡ ones byte
count_of_byte byte small =
    ap (λ counts. get_or counts byte 0) counts_are ∙ get_or-map-range_with_len ones 0 256 byte byte 0 small (zero-add byte)

pub packed_of_byte : (byte : ℕ) → byte < 256 → get_or PLACES byte 0 ≡ packed (set_bits byte)
packed_of_byte byte small =
    ap (λ places. get_or places byte 0) places_are
    ∙ get_or-map-range_with_len (λ byte. packed (set_bits byte)) 0 256 byte byte 0 small (zero-add byte)

pub ones_of_bytes : (bits : ℕ) → ones (bits % 256) + ones (bits / 256) ≡ ones bits
ones_of_bytes bits =
    let whole : bits / 256 * 2 ^ 8 + bits % 256 ≡ bits = omega arith in
    let cat = ones_cat 8 (bits / 256) (bits % 256) (omega arith) in
    omega (arith, cat, ap ones whole)

-- a place of a byte is found in four of the bits
pub unpacked : (places : List ℕ) (i : ℕ) → ((j : ℕ) → j < length places → get_or places j 0 < 8) → i < length places →
    packed places / 2 ^ (4 * i) % 8 ≡ get_or places i 0
unfolding packed
unpacked [] i small less = absurd (omega arith)
unpacked (place ∷ places) zero small less = let first = small 0 (omega arith) in omega arith
unpacked (place ∷ places) (suc i) small less =
    let below = small 0 (omega arith) in
    let wide : 2 ^ (4 * suc i) ≡ 16 * 2 ^ (4 * i) = (let e : 4 * suc i ≡ 4 + 4 * i = omega arith in ap (λ (k : ℕ). 2 ^ k) e) ∙ pow-add 2 4 (4 * i) in
    let rest : (place + 16 * packed places) / 16 ≡ packed places = omega arith in
    ap (λ (p : ℕ). (place + 16 * packed places) / p % 8) wide
    ∙ ap (λ (q : ℕ). q % 8) (sym (div-div-eq-div-mul (place + 16 * packed places) 16 (2 ^ (4 * i))))
    ∙ ap (λ (q : ℕ). q / 2 ^ (4 * i) % 8) rest
    ∙ unpacked places i (λ j h. small (suc j) (omega arith)) (omega arith)

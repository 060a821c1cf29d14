-- How the set bits of a number are counted and found.
use Rattle.std.proofs.Common.{◌≡◌, ℕ, zero, suc, ◌+◌, ◌*◌, ◌/◌, ◌%◌, ◌^◌, ◌<◌, Bool, cond, List, [], ◌∷◌, ◌++◌, map, length}
use Rattle.std.proofs.{Common.{get_or, refl, sym, ap, ◌∙◌, subst, inl, inr, arith, pow-suc, append-nil, ◌==◌}, lemmas.Bool.{cases_eq}}
use Rattle.std.{proofs.lemmas.Nat.{mod-pow-add, ones_cat}, proofs.lemmas.Nat.Bits.{bit_at-suc, bit_at_lowest}, specs.Int.{bit_at}}
use Rattle.std.specs.{Int.Count.{ones, ones_in}, List.{filter, range_with_len}}
use native.Mathlib.Nat.{div-div-eq-div-mul}
use Rattle.tag_machine.specs.MaskBits.{set_bits}

-- the places, counted from k on, of the set bits among the lowest w
pub places : ℕ → ℕ → ℕ → List ℕ
places zero k n = []
places (suc w) k n = cond (n % 2 == 1) (k ∷ places w (k + 1) (n / 2)) (places w (k + 1) (n / 2))

-- a filter of numbers from k on, whose test of k + j is that of bit j
pub filter_places : (w k n : ℕ) (test : ℕ → Bool) → ((j : ℕ) → j < w → test (k + j) ≡ (bit_at n j == 1)) →
    filter test (range_with_len k w) ≡ places w k n
unfolding places
filter_places zero k n test same = refl
filter_places (suc w) k n test same =
    let first : k ≡ k + 0 = omega arith in
    let here : test k ≡ (n % 2 == 1) = ap test first ∙ same 0 (omega arith) ∙ ap (λ b. b == 1) (bit_at_lowest n) in
    let rest : filter test (range_with_len (k + 1) w) ≡ places w (k + 1) (n / 2) =
    filter_places w (k + 1) (n / 2) test
    (λ j h. let next : k + 1 + j ≡ k + suc j = omega arith in
    ap test next ∙ same (suc j) (omega arith) ∙ ap (λ b. b == 1) (bit_at-suc n j)) in
    λ i. cond (here i) (k ∷ rest i) (rest i)

-- a number is even or odd
by_lowest_bit : (P : ℕ → Type 0) → ((half : ℕ) → P (half * 2 + 0)) → ((half : ℕ) → P (half * 2 + 1)) → (n : ℕ) → P n
by_lowest_bit P even odd n = elim (cases_eq (n % 2) 0) [
  | inl none ↦ let is : n / 2 * 2 + 0 ≡ n = omega arith in subst P is (even (n / 2))
  | inr some ↦ let is : n / 2 * 2 + 1 ≡ n = omega arith in subst P is (odd (n / 2))
]

places_odd : (w k half : ℕ) → places (suc w) k (half * 2 + 1) ≡ k ∷ places w (k + 1) half
unfolding places
places_odd w k half = grind (arith, places)

-- there are as many as `count_ones` says
length-places : (w k n : ℕ) → n < 2 ^ w → length (places w k n) ≡ ones n
unfolding places ones ones_in
length-places zero k n h = let none : n ≡ 0 = omega arith in ap ones (sym none)
length-places (suc w) k n h =
    by_lowest_bit (λ m. m < 2 * 2 ^ w → length (places (suc w) k m) ≡ ones m)
    (λ half below. ap length (grind arith) ∙ length-places w (k + 1) half (omega arith)
    ∙ sym (ones_cat 1 half 0 (omega arith) ∙ omega arith))
    (λ half below. ap length (places_odd w k half) ∙ ap suc (length-places w (k + 1) half (omega arith))
    ∙ sym (ones_cat 1 half 1 (omega arith) ∙ omega arith))
    n (omega (arith, pow-suc))

places_parts : (w v t k n : ℕ) → t ≡ w + v → places t k n ≡ places w k n ++ places v (k + w) (n / 2 ^ w)
unfolding places
places_parts zero v t k n sum = grind arith
places_parts (suc w) v zero k n sum = absurd (omega arith)
places_parts (suc w) v (suc t) k n sum = grind (arith, places_parts w v t (k + 1) (n / 2) (omega arith), div-div-eq-div-mul)

-- the lowest w bits alone matter
places_low : (w k n m : ℕ) → n % 2 ^ w ≡ m % 2 ^ w → places w k n ≡ places w k m
unfolding places
places_low zero k n m same = refl
places_low (suc w) k n m same =
    let width : 2 ^ suc w ≡ 2 ^ (w + 1) = (let e : suc w ≡ w + 1 = omega arith in ap (λ j. 2 ^ j) e) in
    let both : n % 2 ^ (w + 1) ≡ m % 2 ^ (w + 1) = ap (λ p. n % p) (sym width) ∙ same ∙ ap (λ p. m % p) width in
    let low : n % 2 ≡ m % 2 = omega (arith, both, mod-pow-add n w 1, mod-pow-add m w 1) in
    let high : n / 2 % 2 ^ w ≡ m / 2 % 2 ^ w = omega (arith, both, mod-pow-add n w 1, mod-pow-add m w 1) in
    let rest = places_low w (k + 1) (n / 2) (m / 2) high in
    λ i. cond (low i == 1) (k ∷ rest i) (rest i)

places_moved : (w k d n : ℕ) → places w (k + d) n ≡ map (λ p. p + d) (places w k n)
unfolding places
places_moved zero k d n = refl
places_moved (suc w) k d n = grind (arith, places_moved w (k + 1) d (n / 2))

-- each place is one of the w
places_below : (w k n i : ℕ) → i < length (places w k n) → get_or (places w k n) i 0 < k + w
unfolding places
places_below zero k n i less = absurd (omega arith)
places_below (suc w) k n i less = grind (arith, places_below w (k + 1) (n / 2))

-- ---- of a number of sixteen bits

pub set_bits-places : (n : ℕ) → set_bits n ≡ places 16 0 n
unfolding set_bits
set_bits-places n =
    filter_places 16 0 n (λ k. bit_at n k == 1) (λ j _. let same : 0 + j ≡ j = omega arith in ap (λ k. bit_at n k == 1) same)

pub length-set_bits : (n : ℕ) → n < 2 ^ 16 → length (set_bits n) ≡ ones n
length-set_bits n h = ap length (set_bits-places n) ∙ length-places 16 0 n h

-- those of a byte are the places of its eight bits
of_byte : (byte : ℕ) → byte < 256 → set_bits byte ≡ places 8 0 byte ++ []
unfolding places
of_byte byte small =
    let none : byte / 2 ^ 8 ≡ 0 = omega arith in
    set_bits-places byte ∙ places_parts 8 8 16 0 byte refl ∙ ap (λ high. places 8 0 byte ++ places 8 8 high) none

-- those of two bytes are those of the lower one, and those of the upper one eight further on
pub set_bits_of_bytes : (n : ℕ) → n < 2 ^ 16 → set_bits n ≡ set_bits (n % 256) ++ map (λ p. p + 8) (set_bits (n / 256))
set_bits_of_bytes n small =
    let same : n % 256 % 256 ≡ n % 256 = omega arith in
    let low : set_bits (n % 256) ≡ places 8 0 n = of_byte (n % 256) (omega arith) ∙ append-nil _ ∙ places_low 8 0 (n % 256) n same in
    let high : set_bits (n / 256) ≡ places 8 0 (n / 256) = of_byte (n / 256) (omega arith) ∙ append-nil _ in
    set_bits-places n ∙ places_parts 8 8 16 0 n refl ∙ ap (λ xs. places 8 0 n ++ xs) (places_moved 8 0 8 (n / 256))
    ∙ (let lower = sym low in let upper = sym high in λ i. lower i ++ map (λ p. p + 8) (upper i))

pub byte_place_below : (byte i : ℕ) → byte < 256 → i < length (set_bits byte) → get_or (set_bits byte) i 0 < 8
byte_place_below byte i small less = grind (arith, places, of_byte, append-nil, places_below)

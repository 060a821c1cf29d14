-- The digits of sixteen bytes, looked up lane by lane.
use Rattle.std.proofs.Common.{◌≡◌, ℕ, suc, ◌+◌, ◌/◌, ◌%◌, ◌^◌, ◌<◌, ◌≤◌, List, [], ◌∷◌, ◌++◌, map, length, get_or, replicate, bit_and}
use Rattle.std.proofs.{Common.{refl, ap, ◌∙◌, subst, zero-add, arith, w8, Fits}, lemmas.List.FromFn.{get_or-map-range_with_len}}
use Rattle.std.{proofs.lemmas.Nat.{and_le_r, and_mask}, specs.Char.{digit_char}, specs.List.{flat_map, range_with_len}}
use Rattle.std.proofs.lemmas.Simd.{pick_l_whole, Each1-all, Each1-weaker, Each1-zip2, Each2-splat, below_from_Fits, length-zip2, zip2_splat}
use Rattle.std.proofs.lemmas.Simd.{swz_l, SwzOk, SwzOk-from_below}
use lib.Lanes.{zip2, pick_l, Each1}
use Rattle.line_text.specs.Hexadecimal.{hex}
use Rattle.replay_core.specs.declared.put.TheConstants.{DIGITS}

abbrev pub AreSixteen : List ℕ → Type 0
AreSixteen v = (length v ≡ 16) × Each1 (Fits w8) v

abbrev pub down : ℕ → ℕ → ℕ
down a b = a / 2 ^ b

abbrev pub firsts : List ℕ → List ℕ
firsts v = zip2 down v (replicate 16 4)

abbrev pub seconds : List ℕ → List ℕ
seconds v = zip2 bit_and v (replicate 16 15)

firsts_small : (v : List ℕ) → AreSixteen v → Each1 (λ j. j < 16) (firsts v)
firsts_small v fits =
    Each1-zip2 down (λ j. j < 16) v (replicate 16 4) (Each2-splat (λ a b. down a b < 16) v 16 4
    (Each1-weaker (λ a. a < 256) (λ a. a / 16 < 16) (λ a h. omega arith) v (below_from_Fits w8 v fits.1)))

seconds_small : (v : List ℕ) → Each1 (λ j. j < 16) (seconds v)
seconds_small v =
    Each1-zip2 bit_and (λ j. j < 16) v (replicate 16 15) (Each2-splat (λ a b. bit_and a b < 16) v 16 15
    (Each1-all (λ a. bit_and a 15 < 16) (λ a. omega (arith, and_le_r a 15)) v))

pub firsts_ok : (v : List ℕ) → AreSixteen v → SwzOk w8 16 16 0 (firsts v)
firsts_ok v fits =
    SwzOk-from_below w8 16 1 16 0 (firsts v) refl (omega (arith, length-zip2 down v (replicate 16 4) fits.0)) (firsts_small v fits)

pub seconds_ok : (v : List ℕ) → AreSixteen v → SwzOk w8 16 16 0 (seconds v)
seconds_ok v fits =
    SwzOk-from_below w8 16 1 16 0 (seconds v) refl (omega (arith, length-zip2 bit_and v (replicate 16 15) fits.0)) (seconds_small v)

digits_are : DIGITS ≡ map digit_char (range_with_len 0 16)
digits_are = refl

digit_at : (j : ℕ) → j < 16 → get_or DIGITS j 0 ≡ digit_char j
digit_at j small = ap (λ all. get_or all j 0) digits_are ∙ get_or-map-range_with_len digit_char 0 16 j j 0 small (zero-add j)

looked_up : (js : List ℕ) (i : ℕ) → i + length js ≤ 16 → Each1 (λ j. j < 16) js → swz_l w8 16 DIGITS i js ≡ map digit_char js
looked_up [] i within small = refl
looked_up (j ∷ js) i within small = grind (arith, looked_up js (suc i) (omega (arith, within)) small.1, digit_at)

pub first_digits : (v : List ℕ) → AreSixteen v → swz_l w8 16 DIGITS 0 (firsts v) ≡ map digit_char (map (λ x. x / 16) v)
first_digits v fits =
    looked_up (firsts v) 0 (omega (arith, length-zip2 down v (replicate 16 4) fits.0, fits.0)) (firsts_small v fits)
    ∙ ap (map digit_char) (zip2_splat down v 16 4 fits.0)

pub second_digits : (v : List ℕ) → AreSixteen v → swz_l w8 16 DIGITS 0 (seconds v) ≡ map digit_char (map (λ x. x % 16) v)
second_digits v fits =
    looked_up (seconds v) 0 (omega (arith, length-zip2 bit_and v (replicate 16 15) fits.0, fits.0)) (seconds_small v)
    ∙ ap (map digit_char) (zip2_splat bit_and v 16 15 fits.0 ∙ (λ k. map (λ x. and_mask x 4 k) v))

-- the lanes of two vectors, in turn
abbrev pub in_turn : List ℕ → List ℕ → List ℕ
in_turn a b =
    pick_l 0 (a ++ b) (0 ∷ 16 ∷ 1 ∷ 17 ∷ 2 ∷ 18 ∷ 3 ∷ 19 ∷ 4 ∷ 20 ∷ 5 ∷ 21 ∷ 6 ∷ 22 ∷ 7 ∷ 23 ∷ 8 ∷ 24 ∷ 9 ∷ 25 ∷ 10 ∷ 26 ∷ 11 ∷ 27 ∷ 12 ∷ 28
    ∷ 13 ∷ 29 ∷ 14 ∷ 30 ∷ 15 ∷ 31 ∷ [])

pub paired : (v : List ℕ) → length v ≡ 16 →
    in_turn (map digit_char (map (λ x. x / 16) v)) (map digit_char (map (λ x. x % 16) v)) ≡ flat_map hex v
paired v long =
    subst (λ w. in_turn (map digit_char (map (λ x. x / 16) w)) (map digit_char (map (λ x. x % 16) w)) ≡ flat_map hex w)
    (pick_l_whole 0 v 16 long) refl

-- Three digits and a byte after them, in one word.
use Rattle.std.proofs.Common.{◌≡◌, ℕ, ◌+◌, ◌*◌, ◌/◌, ◌%◌, ◌^◌, ◌<◌, ◌≤◌, [], ◌∷◌, ◌++◌, refl, sym, ap, ◌∙◌, arith}
use Rattle.std.proofs.lemmas.{Fmt.{decimal_digit}, Nat.{and_mask, and_mod, and_shr, le_or_l, le_or_r, or_mod, or_shr}, Nat.Bits.{and_high}}
use Rattle.std.specs.{Fmt.{decimal}, Int.{to_le_bytes, w32}, Int.Bits.{bit_and, bit_or}}
use Rattle.trace_reader.proofs.DigitsInFront.{longer}

-- a byte of two words that have no bit of a mask there
pub record IsByteApart (x y k m : ℕ) : Type 0 where
  pub byte : ℕ
  pub small : byte < 256
  pub first : x / 2 ^ k % 2 ^ 8 ≤ byte
  pub second : y / 2 ^ k % 2 ^ 8 ≤ byte
  pub apart : bit_and byte m ≡ 0

pub byte_apart : (x y mask k m : ℕ) → bit_and (bit_or x y) mask ≡ 0 → mask / 2 ^ k % 2 ^ 8 ≡ m → 0 / 2 ^ k % 2 ^ 8 ≡ 0 → IsByteApart x y k m
byte_apart x y mask k m clear is zero =
    let z = bit_or x y in
    let byte : z / 2 ^ k % 2 ^ 8 ≡ bit_or (x / 2 ^ k % 2 ^ 8) (y / 2 ^ k % 2 ^ 8) =
    ap (λ n. n % 2 ^ 8) (or_shr x y k) ∙ or_mod (x / 2 ^ k) (y / 2 ^ k) 8 in
    let none : bit_and (z / 2 ^ k % 2 ^ 8) (mask / 2 ^ k % 2 ^ 8) ≡ 0 =
    sym (and_mod (z / 2 ^ k) (mask / 2 ^ k) 8)
    ∙ ap (λ n. n % 2 ^ 8) (sym (and_shr z mask k) ∙ ap (λ n. n / 2 ^ k) clear) ∙ zero in
    grind (arith, le_or_l, le_or_r)

pub low_bits : (x y k : ℕ) → IsByteApart x y k 128 → (x / 2 ^ k % 2 ^ 8 < 128) × (y / 2 ^ k % 2 ^ 8 < 128)
low_bits x y k b =
    let bit : bit_and b.byte 128 ≡ (b.byte / 128 % 2) * 128 = and_high b.byte 1 7 in
    omega arith

no_bits : (x y k : ℕ) → IsByteApart x y k 255 → x / 2 ^ k % 2 ^ 8 ≡ 0
no_bits x y k b =
    let all : bit_and b.byte 255 ≡ b.byte % 256 = and_mask b.byte 8 in
    omega (arith, all, b.apart, b.small, b.first)

-- the number whose digits these are, the lowest byte first, and that byte one less
abbrev pub three_of : ℕ → ℕ
three_of x = (x % 256 + 1) * 100 + x / 256 % 256 * 10 + x / 65536

pub record AreThree (n end x : ℕ) : Type 0 where
  pub spelled : to_le_bytes w32 n ≡ decimal (three_of x) ++ end ∷ []
  pub few : three_of x ≤ 999
  pub many : 100 ≤ three_of x

pub spelled_three : (h t o : ℕ) → h < 9 → t < 10 → o < 10 → decimal ((h + 1) * 100 + t * 10 + o) ≡ (49 + h) ∷ (48 + t) ∷ (48 + o) ∷ []
spelled_three h t o h_in t_in o_in =
    let whole : (h + 1) * 100 + t * 10 + o ≡ ((h + 1) * 10 + t) * 10 + o = omega arith in
    grind (arith, longer, decimal_digit)

pub are_three : (n end x y : ℕ) → n < 2 ^ 32 → end < 256 → x < 2 ^ 32 → (x + (3158065 + end * 2 ^ 24)) % 2 ^ 32 ≡ n
    → y ≡ (x + 7763575) % 2 ^ 32 → bit_and (bit_or x y) 4286611584 ≡ 0 → AreThree n end x
are_three n end x y n_in end_in x_in is_x is_y clear =
    let high : x / 2 ^ 24 % 2 ^ 8 ≡ 0 = no_bits x y 24 (byte_apart x y 4286611584 24 255 clear refl refl) in
    let a = low_bits x y 0 (byte_apart x y 4286611584 0 128 clear refl refl) in
    let b = low_bits x y 8 (byte_apart x y 4286611584 8 128 clear refl refl) in
    let c = low_bits x y 16 (byte_apart x y 4286611584 16 128 clear refl refl) in
    grind (arith, spelled_three)

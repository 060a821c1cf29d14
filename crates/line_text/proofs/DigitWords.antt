-- Bytes in one word: the test that all are digits.
use Rattle.std.proofs.Common.{◌≡◌, ℕ, suc, ◌+◌, ◌*◌, ◌-◌, ◌/◌, ◌%◌, ◌^◌, ◌<◌, ◌∙◌, List, [], ◌∷◌, All, length, get_or, map, refl, sym, ap}
use Rattle.std.proofs.{Common.{arith, true}, Math.Pow.{split}, lemmas.Bool.Decides.{nat_tests}}
use Rattle.std.proofs.lemmas.{Grind.{common_steps}, List.Elements.{All-from_get_or, All-nil}, Nat.Bits.{and_high}}
use Rattle.std.{proofs.lemmas.Nat.{and_block, le_or_l, le_or_r, or_mod, or_shr}, specs.Char.{is_ascii_digit, digit_value}}
use Rattle.std.specs.{Int.{from_le_bytes, w32}, Int.Bits.{bit_and, bit_or}, List.{list_all}}
use Rattle.line_text.{proofs.Digits.{digit_is}, specs.Numbers.{word_of}}

-- this byte in place of each byte of a list, as one number
abbrev pub each : ℕ → List ℕ → ℕ
each k [] = 0
each k (b ∷ bs) = k + 256 * each k bs

-- what is carried past the bytes of a list
abbrev pub past : ℕ → List ℕ → ℕ
past c [] = c
past c (b ∷ bs) = 256 * past c bs

-- one byte of two words, and the bytes after it, if their highest bits are all clear
record AreClear (x y m : ℕ) : Type 0 where
  pub first : x % 256 < 128
  pub second : y % 256 < 128
  pub after : bit_and (bit_or (x / 256) (y / 256)) m ≡ 0

pub clear_byte : (r : ℕ) → r < 256 → bit_and r 128 ≡ 0 → r < 128
clear_byte r small clear = grind (arith, common_steps, and_high)

are_clear : (x y m : ℕ) → bit_and (bit_or x y) (128 + 256 * m) ≡ 0 → AreClear x y m
are_clear x y m clear =
    let z = bit_or x y in
    let cut : z / 256 * 2 ^ 8 + z % 256 ≡ z = split z 8 in
    let mask : m * 2 ^ 8 + 128 ≡ 128 + 256 * m = omega arith in
    let blocks : bit_and (z / 256 * 2 ^ 8 + z % 256) (m * 2 ^ 8 + 128) ≡ bit_and (z / 256) m * 2 ^ 8 + bit_and (z % 256) 128 =
    and_block 8 (z / 256) m (z % 256) 128 (omega arith) (omega arith) in
    let none : bit_and (z / 256) m * 2 ^ 8 + bit_and (z % 256) 128 ≡ 0 = rw (cut, mask, clear) at (sym blocks) in
    let low : z % 256 < 128 = clear_byte (z % 256) (omega arith) (omega (arith, none)) in
    let byte : z % 256 ≡ bit_or (x % 256) (y % 256) = or_mod x y 8 in
    record {
      first = omega (arith, low, byte, le_or_l (x % 256) (y % 256));
      second = omega (arith, low, byte, le_or_r (x % 256) (y % 256));
      after = ap (λ n. bit_and n m) (sym (or_shr x y 8)) ∙ omega (arith, none);
    }

-- the values of digits
abbrev pub values : List ℕ → List ℕ
values bs = map digit_value bs

pub record AreDigits (bs : List ℕ) (x c : ℕ) : Type 0 where
  pub digits : list_all is_ascii_digit bs ≡ true
  pub small : All (λ d. d < 10) (values bs)
  pub word : x ≡ word_of (values bs) + past c bs

-- The word less `0` at each byte, and that word with 118 more at each: if no byte of either has its highest bit set, the bytes are digits.
pub are_digits : (bs : List ℕ) (x y c d : ℕ) → All (λ b. b < 256) bs → x + each 48 bs ≡ word_of bs + past c bs
    → y + past d bs ≡ x + each 118 bs → bit_and (bit_or x y) (each 128 bs) ≡ 0 → AreDigits bs x c
are_digits [] x y c d small is_x is_y clear = record { digits = refl; small = All-nil (λ d. d < 10); word = omega (arith, is_x) }
are_digits (b ∷ bs) x y c d small is_x is_y clear =
    let now = are_clear x y (each 128 bs) clear in
    let byte : b < 256 = small 0 0 (omega arith) in
    let is_byte : b ≡ x % 256 + 48 = omega (arith, is_x, now.first, byte) in
    let more : y % 256 ≡ x % 256 + 118 = omega (arith, is_y, now.first) in
    let few : x % 256 < 10 = omega (arith, more, now.second) in
    let rest =
    are_digits bs (x / 256) (y / 256) c d (λ k e lt. small (suc k) e (omega (arith, lt))) (omega (arith, is_x, is_byte))
    (omega (arith, is_y, more)) now.after in
    let digit : is_ascii_digit b ≡ true = grind (arith, nat_tests, is_byte, few) in
    grind (arith, digit_is)

-- a word whose bytes are these digits
pub record IsDigitWord (bytes : List ℕ) (size word : ℕ) : Type 0 where
  pub digits : list_all is_ascii_digit bytes ≡ true
  pub small : All (λ d. d < 10) (values bytes)
  pub full : length (values bytes) ≡ size
  pub is : word ≡ word_of (values bytes)

pub four_digits : (bytes : List ℕ) (n : ℕ) → length bytes ≡ 4 → ((i : ℕ) → get_or bytes i 0 < 256) → n ≡ from_le_bytes w32 bytes
    → bit_and
    (bit_or ((n + 3486502864) % 2 ^ 32) (((n + 3486502864) % 2 ^ 32 + 1987475062) % 2 ^ 32))
    2155905152
    ≡ 0
    → IsDigitWord bytes 4 ((n + 3486502864) % 2 ^ 32)
four_digits bytes n four small is clear = go bytes four small is
  where
    go : (bs : List ℕ) → length bs ≡ 4 → ((i : ℕ) → get_or bs i 0 < 256) → n ≡ from_le_bytes w32 bs
        → IsDigitWord bs 4 ((n + 3486502864) % 2 ^ 32)
    go (a ∷ b ∷ c ∷ d ∷ []) four small is =
        let bs : List ℕ = a ∷ b ∷ c ∷ d ∷ [] in
        let x = (n + 3486502864) % 2 ^ 32 in
        let fits : n < 2 ^ 32 = omega (arith, is, small 0, small 1, small 2, small 3) in
        let found =
        are_digits bs x ((x + 1987475062) % 2 ^ 32) (1 - (n + 3486502864) / 2 ^ 32) ((x + 1987475062) / 2 ^ 32)
        (All-from_get_or (λ b. b < 256) bs 0 (λ i _. small i)) (omega (arith, is, fits)) (omega arith) clear in
        record { digits = found.digits; small = found.small; full = refl; is = omega (arith, found.word) }
    go bs four small is = absurd (omega (arith, four))

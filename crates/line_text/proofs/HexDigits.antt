-- Reading a byte of two digits, and the laws of its spelling.
use Rattle.std.proofs.Common.{rules, ◌≡◌, ℕ, ◌+◌, ◌*◌, ◌/◌, ◌%◌, ◌<◌, ◌^◌, Bool, true, false, ◌&&◌, cond, List, [], ◌∷◌, Some, None, refl}
use Rattle.std.proofs.{Common.{arith}, lemmas.Bool.{and_parts, and_from}, lemmas.Bool.Decides.{nat_tests}}
use Rattle.std.{proofs.lemmas.Str.{digit_value-digit_char}, specs.Char.{digit_value, digit_char}}
use Rattle.line_text.specs.{Hexadecimal.{is_hex_digit, hex_of, hex}, Lines.{IsLine, IsWord}}

-- ---- one digit

value_lt : (c : ℕ) → is_hex_digit c ≡ true → digit_value c < 16
value_lt c e = grind (arith, nat_tests)

digit_char-digit_value : (c : ℕ) → is_hex_digit c ≡ true → digit_char (digit_value c) ≡ c
digit_char-digit_value c e = grind (arith, nat_tests)

is_hex_digit-digit_char : (d : ℕ) → d < 16 → is_hex_digit (digit_char d) ≡ true
is_hex_digit-digit_char d lt = grind (arith, nat_tests)

-- ---- the laws

-- what is read is a byte, and the word is its spelling
pub hex_is_spelled : (word : List ℕ) (n : ℕ) → hex_of word ≡ Some n → (n < 2 ^ 8) × (word ≡ hex n)
unfolding hex_of
hex_is_spelled [] n e = absurd cc
hex_is_spelled (a ∷ []) n e = absurd cc
hex_is_spelled (a ∷ b ∷ []) n e = go (is_hex_digit a && is_hex_digit b) refl e
  where
    go : (v : Bool) → (is_hex_digit a && is_hex_digit b) ≡ v → cond v (Some (16 * digit_value a + digit_value b)) None ≡ Some n
        → (n < 2 ^ 8) × (a ∷ b ∷ [] ≡ hex n)
    go true digits e =
        let both = and_parts (is_hex_digit a) (is_hex_digit b) digits in
        let is_n : 16 * digit_value a + digit_value b ≡ n = cc in
        let high : n / 16 ≡ digit_value a = omega (arith, is_n, value_lt b both.1) in
        let low : n % 16 ≡ digit_value b = omega (arith, is_n, value_lt b both.1) in grind (arith, value_lt, digit_char-digit_value)
    go false digits e = absurd cc
hex_is_spelled (a ∷ b ∷ c ∷ word) n e = absurd cc

-- and what is spelled so is read
pub spelled_hex_is_read : (n : ℕ) → n < 2 ^ 8 → hex_of (hex n) ≡ Some n
unfolding hex_of
spelled_hex_is_read n small = grind (arith, is_hex_digit-digit_char, and_from, digit_value-digit_char)

-- the spelling is a word of a line
pub spelled_hex_is_a_word : (n : ℕ) → n < 2 ^ 8 → IsLine (hex n) × IsWord (hex n)
spelled_hex_is_a_word = search rules

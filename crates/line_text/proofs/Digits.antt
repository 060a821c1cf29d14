-- Reading a number digit by digit, and the laws of its spelling.
use Rattle.std.proofs.Common.{rules, ◌≡◌, ℕ, ◌+◌, ◌*◌, ◌-◌, ◌^◌, ◌<◌, ◌≤◌, true, false, not, eqb, ◌||◌, List, All, length, get_or, take}
use Rattle.std.proofs.{Common.{sym, ap, ◌∙◌, arith, Some, inl, inr, ne_eqb}, lemmas.Bool.{cases_Bool, cases_lt, and_parts, and_from}}
use Rattle.std.proofs.lemmas.{Bool.Decides.{nat_tests}, Grind.{common_steps}, Int.Digits.{digits_value_more}, List.{length-take-le}}
use Rattle.std.proofs.lemmas.Fmt.{decimal_nonempty, first_decimal, decimal_digit, decimal-digits_value, digits_decimal}
use Rattle.std.proofs.lemmas.{Fmt.{digits_value-decimal}, List.Elements.{All-from_get_or}, List.Folds.{list_all_more}, Option.{same_Some}}
use Rattle.std.{proofs.lemmas.Str.Parse.{IsNumeralModel, numerals_by_value, digits_value_short, digits_value-take-le}, specs.Fmt.{decimal}}
use Rattle.std.specs.{Char.{is_ascii_digit, digit_value}, List.{list_all}, Str.Parse.{digits_value}}
use Rattle.line_text.specs.{Lines.{IsLine, IsWord}, Numbers.{number_of, is_numeral}}

-- ---- reading

pub digit_is : (c : ℕ) → is_ascii_digit c ≡ true → (digit_value c ≡ c - 48) × (48 ≤ c) × (c ≤ 57)
digit_is c e = let h : (48 ≤ c) × (c ≤ 57) = grind (arith, nat_tests) in (grind (arith, nat_tests), h.0, h.1)

pub digit_at : (word : List ℕ) (i : ℕ) → list_all is_ascii_digit word ≡ true → i < length word → is_ascii_digit (get_or word i 0) ≡ true
digit_at word i is also = grind (arith, common_steps, and_parts)

-- the number with one digit more at its end
pub one_more : (digits : List ℕ) (i : ℕ) → i < length digits → is_ascii_digit (get_or digits i 0) ≡ true
    → digits_value 10 (take (i + 1) digits) ≡ digits_value 10 (take i digits) * 10 + (get_or digits i 0 - 48)
one_more digits i lt digit = grind (arith, digits_value_more, digit_is)

pub digits_more : (digits : List ℕ) (i : ℕ) → i < length digits → is_ascii_digit (get_or digits i 0) ≡ true
    → list_all is_ascii_digit (take i digits) ≡ true → list_all is_ascii_digit (take (i + 1) digits) ≡ true
digits_more digits i lt digit so_far = list_all_more is_ascii_digit digits i 0 lt ∙ and_from _ _ so_far digit

-- what std's lemmas want to know of our numerals
pub own : IsNumeralModel (λ ds. list_all is_ascii_digit ds ≡ true) (digits_value 10)
own = numerals_by_value _ (search rules)

-- and that is no more than the number of all the digits
pub number_so_far : (digits : List ℕ) (i : ℕ) → list_all is_ascii_digit digits ≡ true → i < length digits
    → digits_value 10 (take i digits) * 10 + (get_or digits i 0 - 48) ≤ digits_value 10 digits
number_so_far digits i all lt = grind (arith, common_steps, one_more, digit_at, digits_value-take-le)

-- it stays in 64 bits up to 19 digits
pub room_for_one : (word : List ℕ) (i : ℕ) → i < length word → i < 19 → is_ascii_digit (get_or word i 0) ≡ true
    → list_all is_ascii_digit (take i word) ≡ true → digits_value 10 (take i word) * 10 + (get_or word i 0 - 48) < 2 ^ 64
room_for_one word i lt few digit so_far =
    let digits = digits_more word i lt digit so_far in
    let short : length (take (i + 1) word) ≤ 19 = omega (arith, length-take-le (i + 1) word (omega arith)) in
    let below : digits_value 10 (take (i + 1) word) < 10 ^ 19 = digits_value_short own (take (i + 1) word) 19 digits short in
    omega (arith, one_more word i lt digit)

-- ---- the laws

-- the three parts of the test
record IsSpelled (word : List ℕ) : Type 0 where
  pub digits : list_all is_ascii_digit word ≡ true
  pub some : not (eqb (length word) 0) ≡ true
  pub first : (eqb (length word) 1 || not (eqb (get_or word 0 0) 48)) ≡ true

spelled_parts : (word : List ℕ) → is_numeral word ≡ true → IsSpelled word
spelled_parts word e = grind arith

short_zero : (n k : ℕ) → (eqb k 1 || not (eqb n 48)) ≡ true → n ≡ 48 → k ≡ 1
short_zero n k e h = grind (arith, nat_tests)

-- what is read as a number of at most 64 bits is its spelling
pub number_is_spelled : (word : List ℕ) (n : ℕ) → n < 2 ^ 64 → number_of word ≡ Some n → word ≡ decimal n
unfolding number_of
number_is_spelled word n small e =
    elim (cases_Bool (is_numeral word)) [
      | inl spelled ↦
          let s = spelled_parts word spelled in
          let is_n : digits_value 10 word ≡ n = same_Some _ _ (rw spelled at e) in
          let back =
          decimal-digits_value own word s.digits (grind (arith, nat_tests, s.some)) (short_zero (get_or word 0 0) (length word) s.first)
          (rw is_n small) in
          sym back ∙ ap decimal is_n
      | inr other ↦ let f = rw other at e in absurd cc
    ]

-- and what is spelled so is read
pub spelled_number_is_read : (n : ℕ) → n < 2 ^ 64 → number_of (decimal n) ≡ Some n
unfolding number_of
spelled_number_is_read n small = grind (arith, decimal_nonempty, ne_eqb, cases_lt, first_decimal, nat_tests, decimal_digit, and_from, digits_decimal, own, digits_value-decimal)

-- ---- a number is a word of a line

pub other_byte : (c d : ℕ) → is_ascii_digit c ≡ true → d < 48 → eqb c d ≡ false
other_byte c d e lt = let h = digit_is c e in ne_eqb c d (omega (arith, h))

-- no digit is a byte below `0`
pub none_equal : (d : ℕ) → d < 48 → (ds : List ℕ) → list_all is_ascii_digit ds ≡ true → All (λ b. eqb b d ≡ false) ds
none_equal d low ds all = All-from_get_or (λ b. eqb b d ≡ false) ds 0 (λ i lt. other_byte (get_or ds i 0) d (digit_at ds i all lt) low)

pub spelled_number_is_a_word : (n : ℕ) → n < 2 ^ 64 → IsLine (decimal n) × IsWord (decimal n)
spelled_number_is_a_word n small = grind (arith, digits_decimal, own, none_equal)

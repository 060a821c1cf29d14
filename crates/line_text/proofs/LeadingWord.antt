-- The digits at the start of eight bytes, as one word with zeros in front of them.
use Rattle.std.proofs.Common.{◌≡◌, ℕ, suc, zero, ◌+◌, ◌*◌, ◌-◌, ◌%◌, ◌^◌, ◌<◌, ◌≤◌, ◌∙◌, List, [], ◌∷◌, ◌++◌, All, length, map, take, drop}
use Rattle.std.proofs.{Common.{replicate, sym, refl, arith, true}, lemmas.Bool.{and_parts}, lemmas.Int.Digits.{digits_value_is}}
use Rattle.std.{proofs.lemmas.List.Elements.{All-append, All-nil, All-replicate}, specs.Char.{is_ascii_digit, digit_value}}
use Rattle.std.specs.{Int.{from_le_bytes, w64}, Int.Digits.{number_from_digits}, List.{list_all}, Str.Parse.{digits_value}}
use Rattle.line_text.{proofs.Digits.{digit_is}, specs.Numbers.{word_of}}

-- the byte `0`, eight times, is taken from a word of 64 bits by adding this
abbrev minus_zeros : ℕ
minus_zeros = 14974415777481871312

-- The digits in front of these bytes, with zeros in front of them, make this word.
pub record IsMoved (bytes : List ℕ) (count word : ℕ) : Type 0 where
  pub digits : List ℕ
  pub full : length digits ≡ 8
  pub small : All (λ d. d < 10) digits
  pub is : word ≡ word_of digits
  pub value : number_from_digits 10 digits ≡ digits_value 10 (take count bytes)

-- a word that stands so many bytes further up, and one in whose lowest bytes is 1
abbrev raised : ℕ → ℕ → ℕ
raised zero word = word
raised (suc count) word = 256 * raised count word

abbrev ones : ℕ → ℕ
ones zero = 0
ones (suc count) = 1 + 256 * ones count

abbrev digits_of : ℕ → List ℕ → List ℕ
digits_of count bytes = map digit_value (take count bytes)

-- ---- bytes are their digits, as many times the byte `0`, and what is after them

record IsCut (count : ℕ) (bytes : List ℕ) : Type 0 where
  count_is : length (digits_of count bytes) ≡ count
  digits : All (λ d. d < 10) (digits_of count bytes)
  small : word_of (digits_of count bytes) ≤ 9 * ones count
  is : word_of bytes ≡ word_of (digits_of count bytes) + 48 * ones count + raised count (word_of (drop count bytes))

cut : (count : ℕ) (bytes : List ℕ) → count ≤ length bytes → list_all is_ascii_digit (take count bytes) ≡ true → IsCut count bytes
cut zero bytes within all = record { count_is = refl; digits = All-nil _; small = omega arith; is = omega arith }
cut (suc count) [] within all = absurd (omega arith)
cut (suc count) (byte ∷ bytes) within all = grind (arith, cut count bytes (omega arith), and_parts, digit_is)

-- ---- a word without what is after its digits

moved_up : (count digits rest n : ℕ) → 1 ≤ count → count ≤ 8 → digits ≤ 9 * ones count
    → n ≡ digits + 48 * ones count + raised count rest
    → (n + minus_zeros) % 2 ^ 64 * 2 ^ (64 - 8 * count) % 2 ^ 64 ≡ raised (8 - count) digits
moved_up (suc zero) digits rest n some few small is = omega arith
moved_up (suc (suc zero)) digits rest n some few small is = omega arith
moved_up (suc (suc (suc zero))) digits rest n some few small is = omega arith
moved_up (suc (suc (suc (suc zero)))) digits rest n some few small is = omega arith
moved_up (suc (suc (suc (suc (suc zero))))) digits rest n some few small is = omega arith
moved_up (suc (suc (suc (suc (suc (suc zero)))))) digits rest n some few small is = omega arith
moved_up (suc (suc (suc (suc (suc (suc (suc zero))))))) digits rest n some few small is = omega arith
moved_up (suc (suc (suc (suc (suc (suc (suc (suc zero)))))))) digits rest n some few small is = omega arith
moved_up count digits rest n some few small is = absurd (omega (arith, some, few))

-- ---- zeros in front

raised-zeros : (count : ℕ) (digits : List ℕ) → word_of (replicate count 0 ++ digits) ≡ raised count (word_of digits)
raised-zeros zero digits = refl
raised-zeros (suc count) digits = omega (arith, raised-zeros count digits)

value-zeros : (count : ℕ) (digits : List ℕ) → number_from_digits 10 (replicate count 0 ++ digits) ≡ number_from_digits 10 digits
value-zeros zero digits = refl
value-zeros (suc count) digits = value-zeros count digits

length-zeros : (count : ℕ) (digits : List ℕ) → length (replicate count 0 ++ digits) ≡ count + length digits
length-zeros zero digits = omega arith
length-zeros (suc count) digits = omega (arith, length-zeros count digits)

word_is : (bytes : List ℕ) → length bytes ≡ 8 → from_le_bytes w64 bytes ≡ word_of bytes
word_is (a ∷ b ∷ c ∷ d ∷ e ∷ f ∷ g ∷ h ∷ []) eight = omega arith
word_is bytes eight = absurd (omega (arith, eight))

pub moved : (bytes : List ℕ) (n count : ℕ) → length bytes ≡ 8 → n ≡ from_le_bytes w64 bytes
    → list_all is_ascii_digit (take count bytes) ≡ true → 1 ≤ count → count ≤ 8
    → IsMoved bytes count ((n + minus_zeros) % 2 ^ 64 * 2 ^ (64 - 8 * count) % 2 ^ 64)
moved bytes n count eight is all some few =
    let its = cut count bytes (omega arith) all in
    let digits = digits_of count bytes in
    record {
      digits = replicate (8 - count) 0 ++ digits;
      full = omega (arith, length-zeros (8 - count) digits, its.count_is);
      small = All-append (λ d. d < 10) _ _ (All-replicate (λ d. d < 10) (8 - count) 0 (omega arith)) its.digits;
      is =
          moved_up count (word_of digits) (word_of (drop count bytes)) n some few its.small (is ∙ word_is bytes eight ∙ its.is)
          ∙ sym (raised-zeros (8 - count) digits);
      value = value-zeros (8 - count) digits ∙ sym (digits_value_is 10 (take count bytes));
    }

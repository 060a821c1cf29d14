-- Reading a number with its sign, and the laws of its spelling.
use Rattle.std.proofs.Common.{◌≡◌, ℕ, suc, ℤ, pos, negsuc, true, false, List, [], ◌∷◌, drop, take, Option, Some, arith, eqb-true, nat_eq}
use Rattle.std.{proofs.Common.{FitsSigned}, proofs.lemmas.Fmt.{digits_decimal}, specs.Char.{is_ascii_digit}, specs.Fmt.{signed_decimal}}
use Rattle.std.specs.{Int.{w64}, List.{list_all}, Option.{option_map, option_and_then}}
use Rattle.line_text.{proofs.Digits.{own, number_is_spelled, spelled_number_is_read, spelled_number_is_a_word}, specs.Numbers.{number_of}}
use Rattle.line_text.specs.{Lines.{IsLine, IsWord}, Signed.{signed_of, negated}}
use lib.Pointwise.{pointwise}

-- ---- reading

pub signed_of-minus : (word : List ℕ) → pointwise nat_eq (take 1 word) (45 ∷ []) ≡ true →
    signed_of word ≡ option_and_then negated (number_of (drop 1 word))
unfolding signed_of
signed_of-minus word is = grind arith

pub signed_of-other : (word : List ℕ) → pointwise nat_eq (take 1 word) (45 ∷ []) ≡ false → signed_of word ≡ option_map pos (number_of word)
unfolding signed_of number_of
signed_of-other word is = grind arith

-- ---- the laws

-- which number stands after a sign, and which stands without one
some_negated : (o : Option ℕ) (n : ℕ) → option_and_then negated o ≡ Some (negsuc n) → o ≡ Some (suc n)
some_negated o n is = grind arith

none_negated : (o : Option ℕ) (n : ℕ) → option_and_then negated o ≡ Some (pos n) → ⊥
none_negated o n is = grind arith

some_pos : (o : Option ℕ) (n : ℕ) → option_map pos o ≡ Some (pos n) → o ≡ Some n
some_pos o n is = grind arith

none_pos : (o : Option ℕ) (n : ℕ) → option_map pos o ≡ Some (negsuc n) → ⊥
none_pos o n is = grind arith

pub signed_is_spelled : (word : List ℕ) (z : ℤ) → FitsSigned w64 z → signed_of word ≡ Some z → word ≡ signed_decimal z
unfolding signed_of
signed_is_spelled word z is also = grind (arith, none_negated, number_is_spelled, some_negated, eqb-true, some_pos, none_pos)

no_minus : (digits : List ℕ) → list_all is_ascii_digit digits ≡ true → pointwise nat_eq (take 1 digits) (45 ∷ []) ≡ false
no_minus digits is = grind arith

pub spelled_signed_is_read : (z : ℤ) → FitsSigned w64 z → signed_of (signed_decimal z) ≡ Some z
unfolding signed_of
spelled_signed_is_read z is = grind (arith, signed_of-other, no_minus, digits_decimal, own, spelled_number_is_read)

pub spelled_signed_is_a_word : (z : ℤ) → FitsSigned w64 z → IsLine (signed_decimal z) × IsWord (signed_decimal z)
spelled_signed_is_a_word (pos n) fits = spelled_number_is_a_word n (omega (arith, fits.sfits))
spelled_signed_is_a_word (negsuc n) fits =
    let digits = spelled_number_is_a_word (suc n) (omega (arith, fits.sfits)) in grind arith

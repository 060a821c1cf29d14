-- The digits in front of a text, and the number that they spell.
use Rattle.std.proofs.Common.{◌≡◌, ℕ, zero, suc, min, Bool, cond, ◌<◌, ◌≤◌, true, false, eqb, List, [], ◌∷◌, ◌++◌, append-nil, ◌∙◌, length}
use Rattle.std.proofs.{Common.{get_or, take, take_all, refl, sym, ap, arith, Some, None, inl, inr, ◌⊎◌}, lemmas.Bool.{cases_lt, both_ways}}
use Rattle.std.proofs.lemmas.{Bool.Decides.{nat_tests}, Grind.{common_steps}, List.{get_or-take, length-take-le, take-take}}
use Rattle.std.proofs.lemmas.List.Sums.{prefix_len_is, prefix_len_stops, prefix_len-le-length, take_while-cons}
use Rattle.std.specs.{Char.{is_ascii_digit}, List.{list_all, prefix_len, take_while}, Str.Parse.{digits_value}}
use Rattle.line_text.proofs.Digits.{digit_at}
use Rattle.line_text.specs.Numbers.{AreLeading, AreNear, number_of, short_number_of, leading_digits, leading_number_of}

-- a digit before the end of digits
digit_before : (text : List ℕ) (i k : ℕ) → i ≤ length text → list_all is_ascii_digit (take i text) ≡ true → k < i →
    is_ascii_digit (get_or text k 0) ≡ true
digit_before text i k le all lt = grind (arith, digit_at, length-take-le, get_or-take)

-- the digits end at the first other byte
pub ends_at : (text : List ℕ) (i : ℕ) → i ≤ length text → list_all is_ascii_digit (take i text) ≡ true
    → (i < length text → is_ascii_digit (get_or text i 0) ≡ false) → prefix_len is_ascii_digit text ≡ i
ends_at text i le all other = prefix_len_is is_ascii_digit text i 0 le (λ k lt. digit_before text i k le all lt) other

-- and not before it
pub reaches : (text : List ℕ) (i : ℕ) → i ≤ length text → list_all is_ascii_digit (take i text) ≡ true → i ≤ prefix_len is_ascii_digit text
reaches text i le all = elim (cases_lt (prefix_len is_ascii_digit text) i) [
  | inl before ↦
      absurd (both_ways _ (prefix_len_stops is_ascii_digit text 0 (omega arith))
      (digit_before text i (prefix_len is_ascii_digit text) le all before))
  | inr there ↦ omega arith
]

-- what stands in front of the end are digits
pub are_digits : (text : List ℕ) → list_all is_ascii_digit (leading_digits text) ≡ true
are_digits [] = refl
are_digits (c ∷ text) = rw (take_while-cons is_ascii_digit c text) (more (are_digits text) (is_ascii_digit c) refl)
  where
    more : list_all is_ascii_digit (take_while is_ascii_digit text) ≡ true → (b : Bool) → is_ascii_digit c ≡ b →
        list_all is_ascii_digit (cond b (c ∷ take_while is_ascii_digit text) []) ≡ true
    more rest true digit = rw digit rest
    more rest false other = refl

-- and digits alone are all in front
pub all_digits_lead : (word : List ℕ) → list_all is_ascii_digit word ≡ true → prefix_len is_ascii_digit word ≡ length word
all_digits_lead word all = grind (arith, ends_at, take_all)

pub too_many : (text : List ℕ) (i : ℕ) → i ≤ length text → 19 < i → list_all is_ascii_digit (take i text) ≡ true →
    leading_number_of text ≡ None
too_many text i le many all =
    let reached = reaches text i le all in
    grind (arith, length-take-le, prefix_len-le-length, nat_tests)

short : (text : List ℕ) (i : ℕ) → i ≤ length text → i ≤ 19 → prefix_len is_ascii_digit text ≡ i →
    leading_number_of text ≡ number_of (take i text)
short text i le few is = rw is (rw (length-take-le i text le) (grind (arith, nat_tests, few)))

number_of-none : (word : List ℕ) → (length word ≡ 0) ⊎ ((get_or word 0 0 ≡ 48) × (1 < length word)) → number_of word ≡ None
unfolding number_of
number_of-none word is = grind arith

number_of-some : (word : List ℕ) → list_all is_ascii_digit word ≡ true → 0 < length word →
    (length word ≡ 1) ⊎ (eqb (get_or word 0 0) 48 ≡ false)
    → number_of word ≡ Some (digits_value 10 word)
unfolding number_of
number_of-some word is also too = grind arith

-- whether digits are a number: `0` alone may begin with 0
pub no_number : (text : List ℕ) (i : ℕ) → i ≤ length text → i ≤ 19 → prefix_len is_ascii_digit text ≡ i
    → (i ≡ 0) ⊎ ((get_or text 0 0 ≡ 48) × (1 < i)) → leading_number_of text ≡ None
unfolding number_of
no_number text i le few is why = grind (arith, short, number_of-none, length-take-le, get_or-take)

pub a_number : (text : List ℕ) (i : ℕ) → i ≤ length text → i ≤ 19 → prefix_len is_ascii_digit text ≡ i →
    list_all is_ascii_digit (take i text) ≡ true
    → 0 < i → (i ≡ 1) ⊎ (eqb (get_or text 0 0) 48 ≡ false) → leading_number_of text ≡ Some (digits_value 10 (take i text))
a_number text i le few is all some first = grind (arith, short, number_of-some, length-take-le, get_or-take)

-- what was read up to the first byte that is no digit
pub leading_up_to : (text : List ℕ) (i end value : ℕ) → i ≤ length text → end ≡ i → i ≤ 19 → list_all is_ascii_digit (take i text) ≡ true →
    value ≡ digits_value 10 (take i text)
    → (i < length text → is_ascii_digit (get_or text i 0) ≡ false) → AreLeading (Some (value, end)) text
leading_up_to text i end value le is few all read other = grind (arith, ends_at)

pub prefix_len-take : (text : List ℕ) (n : ℕ) → prefix_len is_ascii_digit (take n text) ≡ min n (prefix_len is_ascii_digit text)
prefix_len-take text zero = omega arith
prefix_len-take [] (suc n) = omega arith
prefix_len-take (c ∷ text) (suc n) = grind (arith, min, prefix_len-take text n)

-- the digits in front of the first 19 bytes, where another byte ends them there, are those of the text
pub leading_of_near : (text : List ℕ) (size value : ℕ) → AreNear (Some (size, value)) (take 19 text) → AreLeading (Some (value, size)) text
leading_of_near text size value near =
    let same : prefix_len is_ascii_digit text ≡ size = omega (arith, prefix_len-take text 19, near) in (
      near.2 ∙ ap (digits_value 10) (take-take size 19 text (omega (arith, near.1)) ∙ ap (λ n. take n text) (sym same)),
      sym same,
      omega (arith, near.1),
    )

-- a number of few bytes is a number
pub short_is_number : (word : List ℕ) (n : ℕ) → short_number_of word ≡ Some n → number_of word ≡ Some n
short_is_number word n is = grind arith

-- digits with nothing after them are a whole word
pub whole_number : (word after : List ℕ) (n : ℕ) → Some n ≡ leading_number_of word → word ≡ leading_digits word ++ after →
    length after ≡ 0 → number_of word ≡ Some n
whole_number word after n is also too = grind (arith, common_steps, append-nil, short_is_number)

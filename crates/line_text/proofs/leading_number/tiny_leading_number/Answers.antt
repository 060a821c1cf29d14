use Rattle.std.proofs.Common.{◌≡◌, ◌+◌, ◌*◌, ◌-◌, ◌<◌, ◌≤◌, ◌⊎◌, ℕ, List, Some, true, false, eqb, get_or, length, take}
use Rattle.std.proofs.Common.{arith, inr, ne_eqb, refl}
use Rattle.std.specs.{Char.{is_ascii_digit}, List.{list_all}, Str.Parse.{digits_value}}
use Rattle.line_text.proofs.{Digits.{digits_more, one_more}, LeadingDigits.{a_number, ends_at}}
use Rattle.line_text.specs.Numbers.{leading_number_of}
use Rattle.line_text.proofs.leading_number.tiny_leading_number.Goals as goal

-- the first so many bytes are digits of this value
record AreRead (text : List ℕ) (count value : ℕ) : Type 0 where
  pub digits : list_all is_ascii_digit (take count text) ≡ true
  pub value_is : value ≡ digits_value 10 (take count text)

none-read : (text : List ℕ) → AreRead text 0 0
none-read text = record { digits = refl; value_is = refl }

more-read : (text : List ℕ) (count value more : ℕ) → AreRead text count value → count < length text
    → is_ascii_digit (get_or text count 0) ≡ true → more ≡ value * 10 + (get_or text count 0 - 48) → AreRead text (count + 1) more
more-read text count value more read inside digit is = grind (arith, digits_more, one_more)

-- and the byte after them is none
all-read : (text : List ℕ) (count value : ℕ) → AreRead text count value → 0 < count → count ≤ 19 → count < length text
    → is_ascii_digit (get_or text count 0) ≡ false → (count ≡ 1) ⊎ (eqb (get_or text 0 0) 48 ≡ false)
    → leading_number_of text ≡ Some value
all-read text count value read some few inside other first = search (arith, a_number, ends_at)

one : (text : List ℕ) (first : ℕ) → 0 < length text → is_ascii_digit (get_or text 0 0) ≡ true → first ≡ get_or text 0 0 - 48
    → AreRead text 1 first
one text first inside digit is = more-read text 0 0 first (none-read text) inside digit (omega (arith, is))

pub returns-in_default-clause-number : goal.returns-in_default-clause-number
returns-in_default-clause-number c = grind (arith, all-read, one)

two : (text : List ℕ) (first second both : ℕ) → 4 ≤ length text → is_ascii_digit (get_or text 0 0) ≡ true
    → first ≡ get_or text 0 0 - 48 → is_ascii_digit (get_or text 1 0) ≡ true → second ≡ get_or text 1 0 - 48
    → both ≡ first * 10 + second → AreRead text 2 both
two text first second both enough digit-0 is-0 digit-1 is-1 is =
    more-read text 1 first both (one text first (omega arith) digit-0 is-0) (omega arith) digit-1 (omega (arith, is, is-1))

-- the first digit of more than one is not 0
no-zero : (byte first : ℕ) → first ≡ byte - 48 → 0 < first → eqb byte 48 ≡ false
no-zero byte first is some = ne_eqb byte 48 (omega (arith, is))

pub returns-in_default-digit_of-clause-number : goal.returns-in_default-digit_of-clause-number
returns-in_default-digit_of-clause-number c =
    let text = c.args.text.now in
    let enough : 4 ≤ length text = c.requires in
    let first = c.in_ok-first.ensures.digit in
    let second = c.in-Some.ensures.digit in
    let number = c.in_ok-first.first * 10 + c.in-Some.second in
    all-read text 2 number (two text c.in_ok-first.first c.in-Some.second number enough first.0 first.1 second.0 second.1 refl)
    (omega arith) (omega arith) (omega arith) c.in_default-digit_of.ensures.other
    (inr (no-zero (get_or text 0 0) c.in_ok-first.first first.1 (omega (arith, c.if-first-eq0.false))))

pub returns-clause-number : goal.returns-clause-number
returns-clause-number c =
    let text = c.args.text.now in
    let enough : 4 ≤ length text = c.requires in
    let first = c.in_ok-first.ensures.digit in
    let second = c.in-Some.ensures.digit in
    let third = c.in-Some-digit_of.ensures.digit in
    let pair = c.in_ok-first.first * 10 + c.in-Some.second in
    let number = pair * 10 + c.in-Some-digit_of.third in
    let read : AreRead text 2 pair = two text c.in_ok-first.first c.in-Some.second pair enough first.0 first.1 second.0 second.1 refl in
    all-read text 3 number (more-read text 2 pair number read (omega arith) third.0 (omega (arith, third.1)))
    (omega arith) (omega arith) (omega arith) c.in-None.ensures.other
    (inr (no-zero (get_or text 0 0) c.in_ok-first.first first.1 (omega (arith, c.if-first-eq0.false))))

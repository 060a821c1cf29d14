use Rattle.std.proofs.Common.{◌≡◌, ◌+◌, ◌*◌, ◌∙◌, drop, take, arith, ℕ, ◌<◌, ◌≤◌, ◌^◌, List, [], ◌∷◌, ◌++◌, length, length-drop, true, ap}
use Rattle.std.proofs.{Common.{refl}, Math.Seq.{take-add}, lemmas.Bool.{and_from}, lemmas.List.{take-take, length-take-le}}
use Rattle.std.{proofs.lemmas.List.Folds.{list_all-append}, proofs.lemmas.Str.Parse.{digits_value_short}, specs.Char.{is_ascii_digit}}
use Rattle.std.specs.{List.{list_all}, Str.Parse.{digits_value, digits_value_after}}
use Rattle.line_text.proofs.Digits.{own}
use Rattle.line_text.proofs.near_digits.further_digits.Goals as goal

-- Four digits after digits.
record HasFourMore (bytes : List ℕ) (size value : ℕ) : Type 0 where
  pub digits : list_all is_ascii_digit (take size bytes) ≡ true
  pub is : value ≡ digits_value 10 (take size bytes)
  pub fits : value < 2 ^ 64

value_after : (xs ys : List ℕ) (n : ℕ) → digits_value_after 10 n (xs ++ ys) ≡ digits_value_after 10 (digits_value_after 10 n xs) ys
value_after [] ys n = refl
value_after (x ∷ xs) ys n = value_after xs ys _

four_after : (n : ℕ) (ys : List ℕ) → length ys ≡ 4 → n * 10000 + digits_value 10 ys ≡ digits_value_after 10 n ys
four_after n (a ∷ b ∷ c ∷ d ∷ []) four = omega arith
four_after n ys four = absurd (omega (arith, four))

has_four_more : (bytes : List ℕ) (known value four : ℕ) → known ≤ 8 → 12 ≤ length bytes
    → list_all is_ascii_digit (take known bytes) ≡ true → value ≡ digits_value 10 (take known bytes)
    → list_all is_ascii_digit (take 4 (drop known bytes)) ≡ true → four ≡ digits_value 10 (take 4 (drop known bytes))
    → HasFourMore bytes (known + 4) (value * 10000 + four)
has_four_more bytes known value four few long all is more is_four =
    let whole = take-add known 4 bytes in
    let front = take known bytes in
    let next = take 4 (drop known bytes) in
    let size : length next ≡ 4 = length-take-le 4 (drop known bytes) (omega (arith, length-drop known bytes)) in
    let digits : list_all is_ascii_digit (take (known + 4) bytes) ≡ true =
    ap (list_all is_ascii_digit) whole ∙ list_all-append is_ascii_digit front next ∙ and_from _ _ all more in
    let reads : value * 10000 + four ≡ digits_value 10 (take (known + 4) bytes) =
    omega (arith, is, is_four, four_after (digits_value 10 front) next size, value_after front next 0, ap (digits_value 10) whole) in
    let short : length (take (known + 4) bytes) ≤ 19 = omega (arith, length-take-le (known + 4) bytes (omega (arith, few, long))) in
    record { digits = digits; is = reads; fits = omega (arith, reads, digits_value_short own (take (known + 4) bytes) 19 digits short) }

more : (c : goal.In-Some) → HasFourMore c.args.bytes.now 12 (c.args.value * 10000 + c.in-Some.four)
more c =
    let rest = drop 8 c.args.bytes.now in
    let same : take 4 (take 11 rest) ≡ take 4 rest = take-take 4 11 rest (omega arith) in
    has_four_more c.args.bytes.now 8 c.args.value c.in-Some.four (omega arith) (omega arith) c.requires.digits
    c.requires.value (rw same at c.in-Some.ensures.digits) (rw same at c.in-Some.ensures.value)

pub overflow_mul-value : goal.overflow_mul-value
overflow_mul-value c = omega (arith, (more c).fits)

more_after : (c : goal.After-from) → HasFourMore c.args.bytes.now 12 (c.args.value * 10000 + c.from.result)
more_after c =
    let rest = drop 8 c.args.bytes.now in
    let same : take 4 (take 11 rest) ≡ take 4 rest = take-take 4 11 rest (omega arith) in
    has_four_more c.args.bytes.now 8 c.args.value c.from.result (omega arith) (omega arith) c.requires.digits
    c.requires.value (rw same at c.in-Some.ensures.digits) (c.from.ensures ∙ rw same at c.in-Some.ensures.value)

pub overflow_add-value : goal.overflow_add-value
overflow_add-value c = omega (arith, (more_after c).fits)

pub last_digits-requires-clause-digits : goal.last_digits-requires-clause-digits
last_digits-requires-clause-digits c = (more_after c).digits

pub last_digits-requires-clause-value : goal.last_digits-requires-clause-value
last_digits-requires-clause-value c = (more_after c).is

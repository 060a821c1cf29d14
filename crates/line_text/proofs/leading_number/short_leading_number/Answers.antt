use Rattle.std.proofs.Common.{◌≡◌, ◌^◌, ◌<◌, ◌≤◌, ◌∙◌, ℕ, List, min, take, length, ap, arith}
use Rattle.std.proofs.lemmas.{Grind.{common_steps}, List.{length-take-le, take-take}, List.Sums.{prefix_len-le-length}}
use Rattle.std.{proofs.lemmas.Str.Parse.{digits_value_short}, specs.Char.{is_ascii_digit}, specs.List.{prefix_len}}
use Rattle.std.specs.Str.Parse.{digits_value}
use Rattle.line_text.proofs.{Digits.{own}, LeadingDigits.{are_digits, a_number, prefix_len-take}}
use Rattle.line_text.proofs.leading_number.short_leading_number.Goals as goal

-- so many digits are in front of a text, and this is their value
record IsShort (text : List ℕ) (end value : ℕ) : Type 0 where
  pub is : end ≡ prefix_len is_ascii_digit text
  pub few : end < 8
  pub value_is : value ≡ digits_value 10 (take end text)

-- which is seen in its first eight bytes
is_short : (text bytes : List ℕ) (end value : ℕ) → bytes ≡ take 8 text → end ≡ prefix_len is_ascii_digit bytes
    → value ≡ digits_value 10 (take end bytes) → (end ≡ 8 → ⊥) → IsShort text end value
is_short text bytes end value chunk count read other =
    let ends : end ≡ min 8 (prefix_len is_ascii_digit text) = count ∙ ap (prefix_len is_ascii_digit) chunk ∙ prefix_len-take text 8 in
    record {
      is = omega arith;
      few = omega arith;
      value_is = read ∙ ap (λ (xs : List ℕ). digits_value 10 (take end xs)) chunk ∙ ap (digits_value 10) (take-take end 8 text (omega arith));
    }

small : (text : List ℕ) (end value : ℕ) → IsShort text end value → value < 10 ^ 7
small text end value short =
    let inside = prefix_len-le-length is_ascii_digit text in
    let size : length (take (prefix_len is_ascii_digit text) text) ≤ 7 =
    omega (arith, short.is, short.few, length-take-le (prefix_len is_ascii_digit text) text inside) in
    let least = digits_value_short own (take (prefix_len is_ascii_digit text) text) 7 (are_digits text) size in
    omega (arith, short.value_is, ap (λ (n : ℕ). digits_value 10 (take n text)) short.is, least)

-- the bytes of the text itself
short-end : (text bytes : List ℕ) (end : ℕ) → bytes ≡ take 8 text → end ≡ prefix_len is_ascii_digit bytes → end < 8
    → (value : ℕ) → value ≡ digits_value 10 (take end bytes) → IsShort text end value
short-end text bytes end chunk count few value read = is_short text bytes end value chunk count read (λ e. absurd (omega (arith, e, few)))

pub value_of-requires-clause-digits : goal.value_of-requires-clause-digits
value_of-requires-clause-digits c = rw c.in_ok-end.ensures.count (are_digits c.in_ok-bytes.bytes.now)

pub overflow_cast-result : goal.overflow_cast-result
overflow_cast-result c =
    omega (
      arith,
      small c.args.text.now c.in_ok-end.end c.value_of.result
          (short-end c.args.text.now c.in_ok-bytes.bytes.now c.in_ok-end.end c.in_ok-bytes.ensures.cases.same
          c.in_ok-end.ensures.count c.in_ok-end.ensures.few c.value_of.result c.value_of.ensures),
    )

pub returns-clause-number : goal.returns-clause-number
returns-clause-number c = grind (arith, short-end, a_number, are_digits)

pub returns-clause-after : goal.returns-clause-after
returns-clause-after c =
    let text = c.args.text.now in
    let short =
    short-end text c.in_ok-bytes.bytes.now c.in_ok-end.end c.in_ok-bytes.ensures.cases.same c.in_ok-end.ensures.count
    c.in_ok-end.ensures.few c.value_of.result c.value_of.ensures in
    let same = short.is in
    grind (arith, common_steps, same)

pub slice_bounds-result-start : goal.slice_bounds-result-start
slice_bounds-result-start c = grind (arith, common_steps)

use Rattle.std.proofs.Common.{◌≡◌, ◌+◌, ◌^◌, ◌<◌, ◌≤◌, ◌∙◌, ℕ, Bool, true, false, List, [], ◌∷◌, min, take, drop, length, ◌-◌, Some, refl}
use Rattle.std.proofs.{Common.{sym, ap, arith, inl, inr, ne_eqb}, lemmas.List.{length-take-le, take-take, take_rest}}
use Rattle.std.{proofs.lemmas.List.Sums.{prefix_len-le-length}, proofs.lemmas.Str.Parse.{digits_value_short}, specs.Char.{is_ascii_digit}}
use Rattle.std.specs.{Int.{from_bool}, List.{prefix_len}, Str.Parse.{digits_value}}
use Rattle.line_text.{proofs.Digits.{own}, proofs.LeadingDigits.{are_digits, a_number, prefix_len-take}, specs.Numbers.{unsigned}}
use Rattle.line_text.proofs.leading_number.short_digits.Goals as goal

-- so many digits come after the sign
record IsSignedCount (signed : Bool) (text : List ℕ) (end : ℕ) : Type 0 where
  pub is : end ≡ from_bool signed + prefix_len is_ascii_digit (drop (from_bool signed) text)
  pub few : end < 8

signed-count : (signed : Bool) (text bytes : List ℕ) (end : ℕ) → bytes ≡ take 8 text → 8 ≤ length text
    → end ≡ prefix_len is_ascii_digit (unsigned signed bytes) → end < 8 → IsSignedCount signed text end
signed-count false text bytes end chunk enough count few =
    let ends : end ≡ min 8 (prefix_len is_ascii_digit text) = count ∙ ap (prefix_len is_ascii_digit) chunk ∙ prefix_len-take text 8 in
    record { is = omega arith; few = few }
signed-count true [] bytes end chunk enough count few = absurd (omega (arith, enough))
signed-count true (b ∷ ts) bytes end chunk enough count few =
    let ends : end ≡ min 8 (prefix_len is_ascii_digit (48 ∷ ts)) =
    count ∙ ap (λ (bs : List ℕ). prefix_len is_ascii_digit (unsigned true bs)) chunk ∙ prefix_len-take (48 ∷ ts) 8 in
    record { is = omega (arith, ends); few = few }

-- their value
record AreFew (word bytes : List ℕ) (count : ℕ) : Type 0 where
  pub same : take count bytes ≡ take (prefix_len is_ascii_digit word) word
  pub value : digits_value 10 (take count bytes) < 10 ^ 7

are-few : (word bytes : List ℕ) (count : ℕ) → bytes ≡ take 8 word → count ≡ prefix_len is_ascii_digit word → count ≤ 7 → AreFew word bytes count
are-few word bytes count chunk is few =
    let same : take count bytes ≡ take (prefix_len is_ascii_digit word) word =
    ap (take count) chunk ∙ take-take count 8 word (omega arith) ∙ ap (λ (n : ℕ). take n word) is in
    let size : length (take (prefix_len is_ascii_digit word) word) ≤ 7 =
    omega (arith, is, few, length-take-le (prefix_len is_ascii_digit word) word (prefix_len-le-length is_ascii_digit word)) in
    record {
      same = same;
      value = rw same (digits_value_short own (take (prefix_len is_ascii_digit word) word) 7 (are_digits word) size);
    }

word-few : (signed : Bool) (text bytes : List ℕ) (start end : ℕ) → start ≡ from_bool signed → IsSignedCount signed text end
    → bytes ≡ take 8 (take (length text - start) (drop start text)) → AreFew (drop (from_bool signed) text) bytes (end - start)
word-few signed text bytes start end start-is counted chunk =
    are-few (drop (from_bool signed) text) bytes (end - start)
    (rw take_rest at chunk ∙ ap (λ (k : ℕ). take 8 (drop k text)) start-is) (omega (arith, counted.is, start-is))
    (omega (arith, counted.is, counted.few, start-is))

pub value_of-requires-clause-digits : goal.value_of-requires-clause-digits
value_of-requires-clause-digits c =
    let text = c.args.text.now in
    let chunk = c.in_ok-first_chunk.ensures.cases in
    let counted = signed-count c.args.is_signed text c.in_ok-first_chunk.field-0.now c.in_ok-end.end chunk.same chunk.enough
    c.in_ok-end.ensures.count c.in_ok-end.ensures.few in
    let few = word-few c.args.is_signed text c.in_ok-bytes.bytes.now c.from-start.result c.in_ok-end.end c.from-start.ensures counted
    c.in_ok-bytes.ensures.cases.same in
    rw few.same (are_digits (drop (from_bool c.args.is_signed) text))

pub overflow_cast-result : goal.overflow_cast-result
overflow_cast-result c =
    let text = c.args.text.now in
    let chunk = c.in_ok-first_chunk.ensures.cases in
    let counted = signed-count c.args.is_signed text c.in_ok-first_chunk.field-0.now c.in_ok-end.end chunk.same chunk.enough
    c.in_ok-end.ensures.count c.in_ok-end.ensures.few in
    let few = word-few c.args.is_signed text c.in_ok-bytes.bytes.now c.from-start.result c.in_ok-end.end c.from-start.ensures counted
    c.in_ok-bytes.ensures.cases.same in
    omega (arith, c.value_of.ensures, few.value)

pub returns-clause-end : goal.returns-clause-end
returns-clause-end c =
    let chunk = c.in_ok-first_chunk.ensures.cases in
    (signed-count c.args.is_signed c.args.text.now c.in_ok-first_chunk.field-0.now c.in_ok-end.end chunk.same chunk.enough
    c.in_ok-end.ensures.count c.in_ok-end.ensures.few).is

pub returns-clause-number : goal.returns-clause-number
returns-clause-number c =
    let text = c.args.text.now in
    let word = drop (from_bool c.args.is_signed) text in
    let chunk = c.in_ok-first_chunk.ensures.cases in
    let counted = signed-count c.args.is_signed text c.in_ok-first_chunk.field-0.now c.in_ok-end.end chunk.same chunk.enough
    c.in_ok-end.ensures.count c.in_ok-end.ensures.few in
    let few = word-few c.args.is_signed text c.in_ok-bytes.bytes.now c.from-start.result c.in_ok-end.end c.from-start.ensures counted
    c.in_ok-bytes.ensures.cases.same in
    let some : 0 < prefix_len is_ascii_digit word = omega (arith, counted.is, c.from-start.ensures, c.if-count-eq0.false) in
    a_number word (prefix_len is_ascii_digit word) (prefix_len-le-length is_ascii_digit word) (omega (arith, counted.is, counted.few)) refl
    (are_digits word) some
    (elim c.if-count-gt1.either [
      | inl one ↦ inl (omega (arith, one.1, some, counted.is, c.from-start.ensures))
      | inr other ↦ inr (ne_eqb _ _ (rw (take_rest, c.from-start.ensures) at other))
    ])
    ∙ ap Some (sym (c.value_of.ensures ∙ ap (digits_value 10) few.same))

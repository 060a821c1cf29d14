use Rattle.std.proofs.{Common.{◌≡◌, ℕ, List, refl, ◌∙◌, take, sym, ap, arith, inl, inr, ne_eqb}, lemmas.Grind.{common_steps}}
use Rattle.std.{proofs.lemmas.List.{take-take, take_rest}, specs.Option.{option_map}, specs.Str.Parse.{digits_value}}
use Rattle.line_text.proofs.NearNumbers.{IsNear, near_many, near_no_number, near_other, near_short, near_some, near_word}
use Rattle.line_text.proofs.words.Words.next_near_number.Goals.{then-bytes-size-ne32-via-then-bytes-size-ne32}
use Rattle.line_text.proofs.words.Words.next_near_number.Goals.{then-bytes-size-ne32-via-else-bytes-size-ne32+then-size-eq0}
use Rattle.line_text.proofs.words.Words.next_near_number.Goals.{then-bytes-size-ne32-via-else-bytes-size-ne32+else-size-eq0+then-size-gt1}
use Rattle.line_text.specs.Lines.{words, words_left}
use Rattle.line_text.proofs.words.Words.next_near_number.Goals as goal

near : (c : goal.After-self-2-1) → IsNear c.in_ok-line.line.now c.in_ok-size.size
near c = record {
  long = c.in_ok-bytes.ensures.variant.0 cc;
  digits = rw c.in_ok-bytes.ensures.cases.0 at c.in_ok-size.ensures.0;
  ended = c.in_ok-size.ensures.1;
}

self_is : (c : goal.After-self-2-1) → c.args.self.now ≡ words c.in_ok-line.line.now
self_is c = sym c.self.view_is ∙ ap (λ r. words_left (option_map (λ x. x.now) r)) c.in_ok-line.was

pub returns-clause-number : goal.returns-clause-number
returns-clause-number c =
    let line = c.in_ok-line.line.now in
    let size = c.in_ok-size.size in
    let space = rw c.in_ok-bytes.ensures.cases.0 at c.if-bytes-size-ne32.false in
    let value : c.in_ok-size.value ≡ digits_value 10 (take size line) =
    c.in_ok-size.ensures.2 ∙ ap (λ (bytes : List ℕ). digits_value 10 (take size bytes)) c.in_ok-bytes.ensures.cases.0
    ∙ ap (digits_value 10) (take-take size 19 line (omega (arith, c.in_ok-size.ensures.1))) in
    rw (self_is c, value)
    (sym (near_some line size (near c) space (omega arith) (elim c.if-size-gt1.either [
      | inl one ↦ inl (omega (arith, one.1))
      | inr other ↦ inr (rw c.in_ok-bytes.ensures.cases.0 at (ne_eqb _ _ other))
    ])))

pub returns-clause-taken : goal.returns-clause-taken
returns-clause-taken c =
    let space = rw c.in_ok-bytes.ensures.cases.0 at c.if-bytes-size-ne32.false in
    rw (take_rest, self_is c, near_word c.in_ok-line.line.now c.in_ok-size.size (near c) space) refl

pub returns-in_err-bytes-clause-number : goal.returns-in_err-bytes-clause-number
returns-in_err-bytes-clause-number c = grind (arith, near_short)

pub returns-in_err-size-clause-number : goal.returns-in_err-size-clause-number
returns-in_err-size-clause-number c = grind (arith, near_many)

pub returns-then-bytes-size-ne32-clause-number : goal.returns-then-bytes-size-ne32-clause-number
returns-then-bytes-size-ne32-clause-number c =
    let line = c.in_ok-line.line.now in
    let size = c.in_ok-size.size in
    let self_is : c.args.self.now ≡ words line = sym c.self.view_is ∙ ap (λ r. words_left (option_map (λ x. x.now) r)) c.in_ok-line.was in
    let near : IsNear line size = grind arith in
    rw self_is (sym (elim c.then-bytes-size-ne32.branch [
      | then-bytes-size-ne32-via-then-bytes-size-ne32 w ↦ near_other line size near
          (rw c.in_ok-bytes.ensures.cases.0 at w.if-bytes-size-ne32.true)
      | then-bytes-size-ne32-via-else-bytes-size-ne32+then-size-eq0 w ↦ near_no_number line size near (inl w.if-size-eq0.true)
      | then-bytes-size-ne32-via-else-bytes-size-ne32+else-size-eq0+then-size-gt1 w ↦
          near_no_number line size near (inr (rw c.in_ok-bytes.ensures.cases.0 at w.if-size-gt1.true))
    ]))

pub slice_bounds-self-start : goal.slice_bounds-self-start
slice_bounds-self-start c = grind (arith, common_steps)

pub slice_bounds-self-count : goal.slice_bounds-self-count
slice_bounds-self-count c = grind (arith, common_steps)

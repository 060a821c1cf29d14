use Rattle.std.proofs.{Common.{◌≡◌, ◌<◌, ◌∙◌, ℕ, ◌∷◌, ◌++◌, List, length, refl, sym, ap, arith, eqb-true}, lemmas.Bool.Decides.{nat_tests}}
use Rattle.std.specs.Option.{option_map}
use Rattle.line_text.proofs.FirstPairs.{no_first, no_space, no_second, no_end, pair_ends, after_pair, nothing_left}
use Rattle.line_text.specs.Numbers.{leading_digits}
use Rattle.line_text.proofs.pair.leading_pair.Goals as goal

onto_space : (text tail more : List ℕ) → text ≡ leading_digits text ++ tail → tail ≡ 32 ∷ more → text ≡ leading_digits text ++ 32 ∷ more
onto_space text tail more cut space = cut ∙ ap (λ (t : List ℕ). leading_digits text ++ t) space

pub returns-in_err-first-clause-numbers : goal.returns-in_err-first-clause-numbers
returns-in_err-first-clause-numbers c = grind (arith, no_first)

pub returns-in_err-after_byte-clause-numbers : goal.returns-in_err-after_byte-clause-numbers
returns-in_err-after_byte-clause-numbers c = grind (arith, no_space)

pub returns-in_err-second-clause-numbers : goal.returns-in_err-second-clause-numbers
returns-in_err-second-clause-numbers c = grind (arith, no_second)

pub returns-then-is_empty-clause-numbers : goal.returns-then-is_empty-clause-numbers
returns-then-is_empty-clause-numbers c =
    let empty =
    nothing_left c.in_ok-second.after_second.now (eqb-true (length c.in_ok-second.after_second.now) 0 (sym c.if-is_empty.ensures)) in
    pair_ends c.args.text.now c.in_ok-after_byte.field-0.now c.in_ok-second.after_second.now _ _
    (onto_space _ _ _ c.in_ok-first.ensures.after c.in_ok-after_byte.ensures.first) c.in_ok-second.ensures.after empty.0
    c.in_ok-first.ensures.number c.in_ok-second.ensures.number

pub returns-then-is_empty-clause-after : goal.returns-then-is_empty-clause-after
returns-then-is_empty-clause-after c =
    let empty =
    nothing_left c.in_ok-second.after_second.now (eqb-true (length c.in_ok-second.after_second.now) 0 (sym c.if-is_empty.ensures)) in
    empty.1 ∙ after_pair c.args.text.now c.in_ok-after_byte.field-0.now c.in_ok-second.after_second.now
    (onto_space _ _ _ c.in_ok-first.ensures.after c.in_ok-after_byte.ensures.first) c.in_ok-second.ensures.after

pub returns-in_err-rest-clause-numbers : goal.returns-in_err-rest-clause-numbers
returns-in_err-rest-clause-numbers c =
    let some : 0 < length c.in_ok-second.after_second.now = grind (arith, nat_tests, c.if-is_empty.ensures) in
    ap (option_map (λ found. found.0)) c.from_residual-in_err-rest.ensures
    ∙ sym (no_end c.args.text.now c.in_ok-after_byte.field-0.now c.in_ok-second.after_second.now
    (onto_space _ _ _ c.in_ok-first.ensures.after c.in_ok-after_byte.ensures.first) c.in_ok-second.ensures.after some
    c.in_err-rest.ensures.other)

pub returns-clause-numbers : goal.returns-clause-numbers
returns-clause-numbers c =
    let cut =
    c.in_ok-second.ensures.after ∙ ap (λ (t : List ℕ). leading_digits c.in_ok-after_byte.field-0.now ++ t) c.in_ok-rest.ensures.first in
    pair_ends c.args.text.now c.in_ok-after_byte.field-0.now (10 ∷ c.in_ok-rest.rest.now) _ _
    (onto_space _ _ _ c.in_ok-first.ensures.after c.in_ok-after_byte.ensures.first) cut refl
    c.in_ok-first.ensures.number c.in_ok-second.ensures.number

pub returns-clause-after : goal.returns-clause-after
returns-clause-after c =
    let cut =
    c.in_ok-second.ensures.after ∙ ap (λ (t : List ℕ). leading_digits c.in_ok-after_byte.field-0.now ++ t) c.in_ok-rest.ensures.first in
    after_pair c.args.text.now c.in_ok-after_byte.field-0.now (10 ∷ c.in_ok-rest.rest.now)
    (onto_space _ _ _ c.in_ok-first.ensures.after c.in_ok-after_byte.ensures.first) cut

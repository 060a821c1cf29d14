use Rattle.std.proofs.Common.{◌≡◌, ◌<◌, ℕ, [], ◌∷◌, true, false, cond, eqb, List, length, map, refl, sym, ap, ◌∙◌}
use Rattle.std.{proofs.Common.{arith}, proofs.lemmas.Bool.{eq-eqb, ne_eqb}, proofs.lemmas.Simd.{first_set_mask_l}, specs.List.{prefix_len}}
use Rattle.std.specs.{Char.{is_ascii_digit}, Int.Count.{count_trailing_zeros}, Simd.Lanes.{mask_l}}
use Rattle.line_text.specs.Numbers.{is_no_digit}
use Rattle.line_text.proofs.digit_words.first_other.Goals as goal

-- the bytes before the first that is no digit
before : (bytes : List ℕ) → length bytes ≡ 8
    → cond (eqb (mask_l (map is_no_digit bytes)) 0) 8 (count_trailing_zeros 64 (mask_l (map is_no_digit bytes)))
    ≡ prefix_len is_ascii_digit bytes
before bytes eight = grind (arith, first_set_mask_l)

-- a byte that is no digit ends them
mask-some : (bytes : List ℕ) → (mask_l (map is_no_digit bytes) ≡ 0 → ⊥) → prefix_len is_ascii_digit bytes < length bytes
mask-some [] some = absurd (some refl)
mask-some (b ∷ bs) some = grind (arith, mask-some bs)

pub returns-then-others-eq0 : goal.returns-then-others-eq0
returns-then-others-eq0 c = λ bytes eight is.
    let none : eqb (mask_l (map is_no_digit bytes)) 0 ≡ true = eq-eqb _ _ (sym is ∙ c.if-others-eq0.true) in
    sym (ap (λ b. cond b 8 (count_trailing_zeros 64 (mask_l (map is_no_digit bytes)))) none) ∙ before bytes eight

pub returns : goal.returns
returns c = λ bytes eight is.
    let some : eqb (mask_l (map is_no_digit bytes)) 0 ≡ false = ne_eqb _ _ (λ e. c.if-others-eq0.false (is ∙ e)) in
    let count = ap (count_trailing_zeros 64) is
    ∙ sym (ap (λ b. cond b 8 (count_trailing_zeros 64 (mask_l (map is_no_digit bytes)))) some) ∙ before bytes eight in
    (count, omega (arith, count, eight, mask-some bytes (λ e. c.if-others-eq0.false (is ∙ e))))

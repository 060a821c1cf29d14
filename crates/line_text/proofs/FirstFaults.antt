-- A text has one first fault at most.
use Rattle.std.proofs.{Common.{◌≡◌, ℕ, ◌≤◌, List, take, sym, ap, ◌∙◌, arith}, lemmas.Bool.{cases_lt}, lemmas.List.{take-take}}
use Rattle.line_text.specs.FirstFault.{IsFirstFault}

-- lists that begin alike do so up to an earlier place
take_fewer : {A : Type 0} (m n : ℕ) (xs ys : List A) → m ≤ n → take n xs ≡ take n ys → take m xs ≡ take m ys
take_fewer m n xs ys few e = sym (take-take m n xs few) ∙ ap (take m) e ∙ take-take m n ys few

-- none is after another
not_after : {A : Type 0} (Spells : List ℕ → A → Type 0) (text : List ℕ) (m n : ℕ) → IsFirstFault Spells text m →
    IsFirstFault Spells text n → m ≤ n
not_after Spells text m n first second = grind (arith, cases_lt, take_fewer)

pub one_first_fault : {A : Type 0} (Spells : List ℕ → A → Type 0) (text : List ℕ) (m n : ℕ) → IsFirstFault Spells text m →
    IsFirstFault Spells text n → m ≡ n
one_first_fault Spells text m n first second =
    omega (arith, not_after Spells text m n first second, not_after Spells text n m second first)

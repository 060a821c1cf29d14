use Rattle.std.proofs.Common.{◌≡◌, List, ℕ, [], ◌∷◌, length, refl, sym, arith, eqb-true}
use Rattle.line_text.proofs.FirstRows.{after-ended, after-last, row-ended, row-last}
use Rattle.line_text.proofs.row.ended_row.Goals as goal

nothing : (text : List ℕ) → length text ≡ 0 → text ≡ []
nothing [] none = refl
nothing (b ∷ text) none = absurd (omega (arith, none))

pub returns-then-is_empty-clause-row : goal.returns-then-is_empty-clause-row
returns-then-is_empty-clause-row c = grind (arith, nothing, row-last)

pub returns-then-is_empty-clause-after : goal.returns-then-is_empty-clause-after
returns-then-is_empty-clause-after c = λ text numbers row.
    let none = nothing c.args.rest.now (eqb-true (length c.args.rest.now) 0 (sym c.if-is_empty.ensures)) in
    after-last text c.args.rest.now c.args.first numbers row none

pub returns-clause-row : goal.returns-clause-row
returns-clause-row c = λ text numbers row.
    row-ended text c.args.rest.now c.args.first numbers row c.in_ok-after_byte.field-0.now c.in_ok-after_byte.ensures.first

pub returns-clause-after : goal.returns-clause-after
returns-clause-after c = λ text numbers row.
    after-ended text c.args.rest.now c.args.first numbers row c.in_ok-after_byte.field-0.now c.in_ok-after_byte.ensures.first

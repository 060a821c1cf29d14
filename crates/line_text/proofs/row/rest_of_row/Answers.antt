use Rattle.std.proofs.Common.{◌≡◌, ◌<◌, List, ℕ, length, take, arith}
use Rattle.std.proofs.lemmas.{Grind.{common_steps}, List.{take_more_set}}
use Rattle.line_text.proofs.FirstRows.{is_put, row-more}
use Rattle.line_text.proofs.row.rest_of_row.Goals as goal

take-all : (xs : List ℕ) (n : ℕ) → n ≡ length xs → take n xs ≡ xs
take-all xs n is = grind (arith, common_steps)

pub loop-place-preserved : goal.loop-place-preserved
loop-place-preserved c =
    let inside : c.loop-place.place < length c.loop-place.numbers = omega arith in
    let put = is_put _ c.in_ok-number.number c.in_ok-number.ensures.number in
    grind (arith, take_more_set, row-more)

pub returns-clause-row : goal.returns-clause-row
returns-clause-row c = λ text row.
    rw (take-all c.loop-place.numbers c.loop-place.place (omega arith)) at (c.ended_row.ensures.row text
    (take c.loop-place.place c.loop-place.numbers) (c.loop-place.invariant.row text row))

pub returns-clause-after : goal.returns-clause-after
returns-clause-after c = λ text row.
    c.ended_row.ensures.after text (take c.loop-place.place c.loop-place.numbers) (c.loop-place.invariant.row text row)

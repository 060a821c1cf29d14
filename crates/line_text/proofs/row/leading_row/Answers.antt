use Rattle.std.proofs.Common.{◌<◌, length, take, arith}
use Rattle.std.proofs.lemmas.List.{length-set, take_more_set}
use Rattle.line_text.proofs.FirstRows.{is_put, row-first, row-more}
use Rattle.line_text.proofs.row.leading_row.Goals as goal

pub loop-place-init : goal.loop-place-init
loop-place-init c = grind (arith, row-first)

pub loop-place-preserved : goal.loop-place-preserved
loop-place-preserved c =
    let inside : c.loop-place.place < length c.loop-place.numbers = omega arith in
    let put = is_put _ c.in-Some.number c.in-Some.ensures.number in
    rw (take_more_set c.loop-place.numbers c.loop-place.place c.in-Some.number inside) (record {
      within = omega (arith, inside, length-set c.loop-place.numbers c.loop-place.place c.in-Some.number);
      row = grind (arith, row-more);
    })

pub returns-then-place-numbers-clause-after : goal.returns-then-place-numbers-clause-after
returns-then-place-numbers-clause-after c =
    c.ended_row.ensures.after c.args.text.now (take c.loop-place.place c.loop-place.numbers) c.loop-place.invariant.row

use Rattle.std.proofs.Common.{refl, arith}
use Rattle.line_text.specs.Numbers.{number_of}
use Rattle.history_count.proofs.Filling.{fills-few, fills-more, next_word, no_next_word, no_number, none_on}
use Rattle.history_count.proofs.line.fill.Goals as goal

pub returns-in_default : goal.returns-in_default
returns-in_default c =
    let few = fills-few _ _ _ _ c.loop-place.invariant (no_next_word _ c.in_default.ensures.number) (omega arith) in
    rw few.1 (refl, λ same. few.2 (omega (arith, same)))

pub returns-in_default-capped_number : goal.returns-in_default-capped_number
returns-in_default-capped_number c =
    let next = next_word _ _ _ c.in-Some.ensures.number c.in-Some.ensures.taken in
    let none = no_number (number_of next.word) c.capped_number.result c.in_default-capped_number.is (c.capped_number.ensures (number_of next.word) next.says) in
    rw (none_on _ _ _ _ next.word c.loop-place.invariant.read next.parts none) refl

pub loop-place-preserved : goal.loop-place-preserved
loop-place-preserved c = grind (arith, fills-more)

use Rattle.std.proofs.Common.{refl}
use Rattle.line_text.specs.Numbers.{number_of}
use Rattle.history_count.proofs.Filling.{ends-all, ends-longer, ends-more, next_word, no_next_word, no_number, none_on, read_number}
use Rattle.history_count.proofs.line.end.Goals as goal

pub returns-in_default-capped_number : goal.returns-in_default-capped_number
returns-in_default-capped_number c =
    let next = next_word _ _ _ c.in-Some.ensures.number c.in-Some.ensures.taken in
    let none = no_number (number_of next.word) c.capped_number.result c.in_default-capped_number.is (c.capped_number.ensures (number_of next.word) next.says) in
    rw (none_on _ _ _ _ next.word c.loop-read.invariant.read next.parts none) refl

pub loop-read-preserved : goal.loop-read-preserved
loop-read-preserved c =
    let next = next_word _ _ _ c.in-Some.ensures.number c.in-Some.ensures.taken in
    let read = read_number (number_of next.word) c.in-Some-capped_number.field-0 (c.in-Some-capped_number.ensures (number_of next.word) next.says) in
    ends-more _ _ _ _ next.word read.0 c.loop-read.invariant next.parts read.1

pub returns-then-is_too_long : goal.returns-then-is_too_long
returns-then-is_too_long c =
    let longer = ends-longer _ _ _ c.loop-read.invariant (no_next_word _ c.in_default.ensures.number) c.if-is_too_long.true in
    rw longer.1 (refl, longer.2)

pub returns : goal.returns
returns c = rw (ends-all _ _ _ c.loop-read.invariant (no_next_word _ c.in_default.ensures.number) c.if-is_too_long.false) (refl, refl)

use Rattle.std.proofs.Common.{◌≡◌, ◌<◌, length, sym, ◌∙◌, arith}
use Rattle.class_table.specs.declared.sizes.TheConstants.{MOST_NEEDS}
use Rattle.line_text.specs.Numbers.{number_of}
use Rattle.potential_check.proofs.RowNumbers.{next_word, no_next_word, no_value_passes, row_on-no_number, row_on-full, row_on-more}
use Rattle.potential_check.proofs.RowNumbers.{row_on-end, value_passes}
use Rattle.potential_check.proofs.sheet_line.row_of_words.Goals as goal

pub returns-in_default-read : goal.returns-in_default-read
returns-in_default-read c =
    let next = next_word _ _ _ c.in-Some.ensures.number c.in-Some.ensures.taken in
    let none = no_value_passes (number_of next.word) _ next.says c.in_default-read.not-Value in
    sym (c.loop-read.invariant.read ∙ row_on-no_number _ _ _ _ next.parts none)

pub returns-then-len-eq-MOST_NEEDS : goal.returns-then-len-eq-MOST_NEEDS
returns-then-len-eq-MOST_NEEDS c =
    let next = next_word _ _ _ c.in-Some.ensures.number c.in-Some.ensures.taken in
    let full : length c.loop-read.row.items ≡ MOST_NEEDS = omega arith in
    sym (c.loop-read.invariant.read ∙ row_on-full _ _ _ _ next.parts full)

pub loop-read-preserved : goal.loop-read-preserved
loop-read-preserved c =
    let room : length c.loop-read.row.items < MOST_NEEDS = omega (arith, c.loop-read.invariant.few) in
    let next = next_word _ _ _ c.in-Some.ensures.number c.in-Some.ensures.taken in
    let passes = value_passes (number_of next.word) _ (sym c.in-Value.is ∙ next.says) in
    rw c.in_ok-push.ensures.items (row_on-more _ _ _ _ _ _ c.loop-read.invariant next.parts passes room)

pub returns : goal.returns
returns c = sym (row_on-end _ _ _ c.loop-read.invariant (no_next_word _ c.in_default.ensures.number))

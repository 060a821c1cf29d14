use Rattle.std.proofs.Common.{sym, ◌∙◌}
use Rattle.line_text.specs.Numbers.{number_of}
use Rattle.potential_check.proofs.RowNumbers.{no_value_passes, only-none, only-more, only-one, value_passes}
use Rattle.potential_check.proofs.sheet_line.only_number.Goals as goal

pub returns-in_err-word : goal.returns-in_err-word
returns-in_err-word c = rw (c.from_residual.ensures, c.in_err-word.ensures.steps.0) (sym only-none)

pub returns-in-Some : goal.returns-in-Some
returns-in-Some c = rw (c.in_ok-word.ensures.steps, c.in-Some.ensures.steps) (sym (only-more _ _ _))

pub returns-in-Value : goal.returns-in-Value
returns-in-Value c =
    let word = c.in_ok-word.word.now in
    rw (c.in_ok-word.ensures.steps, c.in_default.ensures.steps.0) (sym (only-one word ∙ value_passes (number_of word) _ c.in-Value.ensures))

pub returns-in_default-number_in : goal.returns-in_default-number_in
returns-in_default-number_in c =
    let word = c.in_ok-word.word.now in
    rw (c.in_ok-word.ensures.steps, c.in_default.ensures.steps.0)
    (sym (only-one word ∙ no_value_passes (number_of word) _ c.number_in.ensures c.in_default-number_in.not-Value))

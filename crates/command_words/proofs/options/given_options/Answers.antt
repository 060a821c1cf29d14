use Rattle.std.proofs.{Common.{◌≡◌, List, subst, take}, lemmas.List.{take_all}}
use Rattle.clap.specs.Words.{found_of, rows_of}
use Rattle.tool_call.specs.declared.options.OptionName.{OptionName}
use Rattle.command_words.proofs.GivenOptions.{AreGiven, has_options, one_more}
use Rattle.command_words.proofs.options.given_options.Goals as goal

pub loop-option-preserved : goal.loop-option-preserved
loop-option-preserved c =
    rw c.with-options.ensures
    (one_more (rows_of (found_of c.args.words.now)) _ _ _ _ _ c.loop-option-test.true c.loop-option.invariant c.in-Ok.ensures)

pub returns : goal.returns
returns c =
    let items = c.options_of-option-items.result.now in
    let all : take c.loop-option.option-index items ≡ items = take_all _ items c.loop-option-test.false in
    has_options c.args.command (rows_of (found_of c.args.words.now)) c.loop-option.options
    (subst (λ (names : List OptionName). AreGiven (rows_of (found_of c.args.words.now)) names c.loop-option.options)
    c.options_of-option-items.ensures (rw all at c.loop-option.invariant))

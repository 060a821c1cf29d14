use Rattle.std.proofs.{Common.{◌≡◌, List, refl, subst, take}, lemmas.List.{take_all}}
use Rattle.std.specs.List.{All}
use Rattle.tool_call.specs.{OptionTable.{number_of}, Options.{Takes}, declared.options.OptionName.{OptionName}}
use Rattle.tool_call.proofs.ValidOptions.{one_more}
use Rattle.tool_call.proofs.call.Call.is_valid.Goals as goal

pub loop-option-preserved : goal.loop-option-preserved
loop-option-preserved c =
    one_more c.args.self.options _ _ _ _ c.loop-option-test.true c.loop-option.invariant c.number.ensures (c.if-not-takes.ensures.0 refl)

pub returns : goal.returns
returns c =
    let items = c.options_of-option-items.result.now in
    let all : take c.loop-option.option-index items ≡ items = take_all _ items c.loop-option-test.false in
    let are_valid = subst (λ (names : List OptionName). All (λ option. Takes option (number_of option c.args.self.options)) names)
    c.options_of-option-items.ensures (rw all at c.loop-option.invariant) in
    ((λ is_true. are_valid), (λ valid. refl))

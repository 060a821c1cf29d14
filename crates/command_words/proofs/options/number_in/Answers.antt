use Rattle.std.proofs.Common.{◌≡◌, ap, arith, subst, sym}
use Rattle.clap.specs.Words.{Text, found_of, rows_of}
use Rattle.command_words.specs.Options.{HasNumber}
use Rattle.tool_call.specs.OptionTable.{OptionFacts, facts}
use Rattle.command_words.proofs.options.number_in.Goals as goal

pub returns-in_default : goal.returns-in_default
returns-in_default c = λ n has.
    let option = c.number_option.result in
    let none = rw c.in_default.is at c.number.ensures in
    let name : option.name.now ≡ (facts c.args.option).name = ap (λ (f : OptionFacts). f.name) c.number_option.ensures in
    let most : option.most ≡ (facts c.args.option).most = ap (λ (f : OptionFacts). f.most) c.number_option.ensures in
    none n (omega (arith, has.1.1, most, c.number_option.type_inv)) (subst (λ (t : Text). HasNumber (rows_of (found_of c.args.words.now)) t n) (sym name) has.0)

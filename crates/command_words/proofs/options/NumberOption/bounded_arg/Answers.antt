use Rattle.std.{proofs.Common.{◌≡◌, ℕ, ◌<◌, ◌^◌, Some, ap, arith, pos, rules, ◌∙◌}, specs.Int.{int_max, int_min}}
use Rattle.clap.specs.{Words.{Rule, signed_between}, declared.builder.value_parser.ValueParser.TheVariants.{Signed}}
use mir.{Syntax.{w64}, Val.{to_z}}
use Rattle.command_words.proofs.options.NumberOption.bounded_arg.Goals as goal

within_bounds : (least most : ℕ) → least < 2 ^ 32 → most < 2 ^ 32 →
    signed_between (int_max (pos 0) (to_z w64 least)) (int_min (pos 4294967295) (to_z w64 most)) ≡ Signed (pos least) (pos most)
within_bounds least most low high = search rules

pub returns : goal.returns
returns c =
    let self = c.args.self.now in
    let number = Signed (pos self.least) (pos self.most) in
    let narrow = rw (c.value_parser.ensures, c.new-2.ensures.start, c.new-2.ensures.end) at c.range.ensures in
    let range : c.range.result ≡ number = narrow ∙ within_bounds self.least self.most (omega arith) (omega arith) in
    let parser : c.value_parser-2.result.value_parser ≡ Some number =
    c.value_parser-2.ensures.given.1 ∙ ap Some (c.value_parser-2.ensures.given.2 ∙ range) in
    let rule = ap (λ (rule : Rule). record rule { long = Some self.name.now; value_names = 1; parser = Some number }) c.new.ensures.rule in
    rw (c.help.ensures, c.value_parser-2.ensures.others, parser, c.value_name.ensures, c.long.ensures) (rule, c.new.ensures.optional.1)

-- When options are valid.
use Rattle.std.{proofs.{Common.{◌≡◌, ◌<◌, ◌+◌, ℕ, List, get_or, length, subst, take}, lemmas.List.Elements.{All-more}}, specs.List.{All}}
use Rattle.tool_call.specs.{OptionTable.{number_of}, Options.{Takes}, declared.options.OptionName.{OptionName}, declared.options.Options.{Options}}

-- one more of them is
pub one_more : (options : Options) (names : List OptionName) (i : ℕ) (d : OptionName) (n : ℕ) → i < length names
    → All (λ option. Takes option (number_of option options)) (take i names) → n ≡ number_of (get_or names i d) options
    → Takes (get_or names i d) n → All (λ option. Takes option (number_of option options)) (take (i + 1) names)
one_more options names i d n lt so_far is takes =
    All-more (λ option. Takes option (number_of option options)) names i d lt so_far (subst (λ m. Takes (get_or names i d) m) is takes)

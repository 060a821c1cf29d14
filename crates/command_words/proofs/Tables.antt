-- A loop over a table adds what the table's values describe.
use Rattle.std.proofs.{Common.{◌≡◌, ℕ, ◌+◌, ◌<◌, List, fold, get_or, length, take, ap, sym, ◌∙◌}, lemmas.List.Sums.{fold_more}}
use Rattle.clap.specs.Words.{App, Rule, with_rule, with_subcommand}
use Rattle.command_words.specs.{AcceptedWords.{with_command, words_of}, Options.{option_rule, with_option}}
use Rattle.tool_call.specs.{OptionTable.{facts}, declared.call.CommandName.{CommandName}, declared.options.OptionName.{OptionName}}

-- one more option
pub option_more : (before start : App) (options : List OptionName) (i : ℕ) (d : OptionName) (rule : Rule) → i < length options
    → before ≡ fold with_option start (take i options) → rule ≡ option_rule (facts (get_or options i d))
    → with_rule before rule ≡ fold with_option start (take (i + 1) options)
option_more before start options i d rule lt so_far is =
    ap (with_rule before) is ∙ ap (λ (a : App). with_option a (get_or options i d)) so_far ∙ sym (fold_more with_option start options i d lt)

-- one more command
pub command_more : (before start : App) (names : List CommandName) (i : ℕ) (d : CommandName) (words : App) → i < length names
    → before ≡ fold with_command start (take i names) → words ≡ words_of (get_or names i d)
    → with_subcommand before words.top ≡ fold with_command start (take (i + 1) names)
command_more before start names i d words lt so_far is =
    ap (λ (a : App). with_subcommand before a.top) is ∙ ap (λ (a : App). with_command a (get_or names i d)) so_far
    ∙ sym (fold_more with_command start names i d lt)

-- The options: how clap reads one, and what it is that words give those of a command their numbers.
use Rattle.std.specs.Prelude.{◌≡◌, ◌==◌, if◌then◌else◌, ℕ, All, List, [], ◌∷◌, Option, Some, None, Result, Ok, Err, codes, fold, option_map, pos}
use Rattle.std.specs.Prelude.{true, false}
use Rattle.std.specs.Str.Parse.{IsNumeral, without_leading_plus, digits_value}
use Rattle.clap.specs.{Words.{App, Row, Rule, Text, new_rule, one_of, rule_of, with_rule}, declared.builder.arg.Arg.{Arg}}
use Rattle.clap.specs.declared.builder.value_parser.ValueParser.TheVariants.{Signed}
use Rattle.command_words.specs.declared.options.NumberOption.{NumberOption}
use Rattle.tool_call.specs.{OptionTable.{OptionFacts, facts, no_options, number_of, options_of, with_number}, Options.{Takes}}
use Rattle.tool_call.specs.declared.{call.CommandName.{CommandName}, options.OptionName.{OptionName}, options.Options.{Options}}

-- ---- for clap

-- The option for clap: its value is a number within the bounds.
abbrev pub bounded_rule : OptionFacts → Rule
bounded_rule it = record (new_rule it.name) {
  long = Some it.name;
  value_names = 1;
  parser = Some (Signed (pos it.least) (pos it.most));
}

-- It may stand without its value, which is 1 then.
abbrev pub without_number : Rule → Rule
without_number rule = record rule { range = Some (record { start_inclusive = 0; end_inclusive = 1 }); missing = codes "1" ∷ [] }

-- An option of 0 or 1 may do so.
abbrev pub number_rule : OptionFacts → Rule
number_rule it = if it.most == 1 then without_number (bounded_rule it) else bounded_rule it

abbrev pub with_default : Option Text → Rule → Rule
with_default None rule = record rule { required = true }
with_default (Some text) rule = record rule { defaults = text ∷ [] }

abbrev pub option_rule : OptionFacts → Rule
option_rule it = with_default it.default (number_rule it)

-- An option with this rule.
abbrev pub IsOption : Arg → Rule → Type 0
IsOption option rule = (rule_of option ≡ rule) × (option.global ≡ false)

-- The facts of an option in the code.
abbrev pub facts_of : NumberOption → OptionFacts
facts_of option = record {
  name = option.name.now;
  least = option.least;
  most = option.most;
  default = option_map (λ t. t.now) option.default;
}

-- The words `a` with an option, and with the options of a command.
abbrev pub with_option : App → OptionName → App
with_option a option = with_rule a (option_rule (facts option))

abbrev pub with_options : CommandName → App → App
with_options command a = fold with_option a (options_of command)

-- ---- what words give them

-- The option of this name has a value that spells the number: decimal digits, with or without a `+` before them.
abbrev pub HasNumber : List Row → Text → ℕ → Type 0
HasNumber rows name n = (text : Text) × (one_of name rows ≡ Some text)
    × IsNumeral 10 (without_leading_plus text) × (digits_value 10 (without_leading_plus text) ≡ n)

-- The option has this number, and takes it.
abbrev pub Has : List Row → OptionName → ℕ → Type 0
Has rows option n = HasNumber rows (facts option).name n × Takes option n

-- What was read of an option is such a number, or there is none.
abbrev pub IsRead : {E : Type 0} → (ℕ → Type 0) → Result ℕ E → Type 0
IsRead P (Ok n) = P n
IsRead P (Err fault) = (n : ℕ) → P n → ⊥

-- The options of this list with their numbers, and the others 0.
abbrev pub options_with : (OptionName → ℕ) → List OptionName → Options
options_with numbers names = fold (λ options option. with_number options option (numbers option)) no_options names

-- The words give each option of the command its number, and the others are 0.
pub record HasOptions (command : CommandName) (rows : List Row) (options : Options) : Type 0 where
  pub given : All (λ option. Has rows option (number_of option options)) (options_of command)
  pub others : options ≡ options_with (λ option. number_of option options) (options_of command)

-- What was read of them are such options, or there are none.
abbrev pub AreRead : {E : Type 0} → CommandName → List Row → Result Options E → Type 0
AreRead command rows (Ok options) = HasOptions command rows options
AreRead command rows (Err fault) = (options : Options) → HasOptions command rows options → ⊥

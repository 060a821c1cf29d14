-- What words give the options of a command.
use Rattle.std.proofs.Common.{◌≡◌, ◌∙◌, ◌<◌, ◌+◌, ℕ, List, [], ◌∷◌, Option, Some, None, ap, fold, get_or, length, refl, subst, sym, take}
use Rattle.std.{proofs.lemmas.List.{Elements.{All-from_recursion, All-get_or, All-more, All-weaker, recursion_from_All}, Sums.{fold_more}}}
use Rattle.std.specs.{List.{All, AllByRecursion}, Str.Parse.{without_leading_plus, digits_value}}
use Rattle.clap.specs.Words.{Row, Text, one_of}
use Rattle.command_words.specs.Options.{Has, HasOptions, options_with}
use Rattle.tool_call.specs.{OptionTable.{facts, no_options, number_of, options_of, with_number}, Options.{AreValid, Takes}}
use Rattle.tool_call.specs.declared.{call.CommandName.{CommandName}, options.OptionName.{OptionName}, options.Options.{Options}}
use Rattle.tool_call.specs.declared.call.CommandName.TheVariants.{Score, Tune, Check, Footprint, Fit, CheckFit, Peaks, Profile, Replay, Run}

-- ---- the number of one option

abbrev spelled : Option Text → ℕ
spelled (Some text) = digits_value 10 (without_leading_plus text)
spelled None = 0

-- the number that words give an option
abbrev pub given_number : List Row → OptionName → ℕ
given_number rows option = spelled (one_of (facts option).name rows)

is_given : (rows : List Row) (option : OptionName) (n : ℕ) → Has rows option n → n ≡ given_number rows option
is_given rows option n has = sym has.0.3 ∙ ap spelled (sym has.0.1)

-- ---- one option after the other

-- the options of this list have the numbers that words give them, and the others are 0
pub record AreGiven (rows : List Row) (names : List OptionName) (options : Options) : Type 0 where
  pub given : All (λ option. Has rows option (given_number rows option)) names
  pub others : options ≡ options_with (given_number rows) names

pub one_more : (rows : List Row) (names : List OptionName) (i : ℕ) (d : OptionName) (before : Options) (n : ℕ) → i < length names
    → AreGiven rows (take i names) before → Has rows (get_or names i d) n
    → AreGiven rows (take (i + 1) names) (with_number before (get_or names i d) n)
one_more rows names i d before n lt so_far has =
    let option = get_or names i d in
    let same = is_given rows option n has in
    let adds : Options → OptionName → Options = λ options o. with_number options o (given_number rows o) in
    record {
      given = All-more (λ o. Has rows o (given_number rows o)) names i d lt so_far.given (subst (λ m. Has rows option m) same has);
      others = ap (λ m. with_number before option m) same ∙ ap (λ (b : Options). adds b option) so_far.others
          ∙ sym (fold_more adds no_options names i d lt);
    }

-- ---- all options of a command

-- they have the numbers that they are given, since no option is there twice
back : (numbers : OptionName → ℕ) (P : OptionName → ℕ → Type 0) (command : CommandName)
    → AllByRecursion (λ option. P option (numbers option)) (options_of command)
    → AllByRecursion (λ option. P option (number_of option (options_with numbers (options_of command)))) (options_of command)
back numbers P Score all = all
back numbers P Tune all = all
back numbers P Check all = all
back numbers P Footprint all = all
back numbers P Fit all = all
back numbers P CheckFit all = all
back numbers P Peaks all = all
back numbers P Profile all = all
back numbers P Replay all = all
back numbers P Run all = all

-- the same numbers give the same options
same_options : (f g : OptionName → ℕ) (names : List OptionName) (start : Options) → AllByRecursion (λ option. f option ≡ g option) names
    → fold (λ options option. with_number options option (f option)) start names
    ≡ fold (λ options option. with_number options option (g option)) start names
same_options f g [] start same = refl
same_options f g (option ∷ names) start same =
    ap (λ n. fold (λ options o. with_number options o (f o)) (with_number start option n) names) same.0
    ∙ same_options f g names (with_number start option (g option)) same.1

pub has_options : (command : CommandName) (rows : List Row) (options : Options) → AreGiven rows (options_of command) options
    → HasOptions command rows options
has_options command rows options are =
    let numbers = given_number rows in
    let names = options_of command in
    let made = options_with numbers names in
    let same = back numbers (λ option n. numbers option ≡ n) command (recursion_from_All (λ option. numbers option ≡ numbers option) names (λ k d lt. refl)) in
    subst (λ (o : Options). HasOptions command rows o) (sym are.others) (record {
      given = All-from_recursion (λ option. Has rows option (number_of option made)) names
          (back numbers (Has rows) command (recursion_from_All (λ option. Has rows option (numbers option)) names are.given));
      others = same_options numbers (λ option. number_of option made) names no_options same;
    })

pub none_given : (command : CommandName) (rows : List Row) (names : List OptionName) (i : ℕ) (d : OptionName) → names ≡ options_of command
    → i < length names → ((n : ℕ) → Has rows (get_or names i d) n → ⊥) → (options : Options) → HasOptions command rows options → ⊥
none_given command rows names i d is lt none options has =
    none (number_of (get_or names i d) options)
    (All-get_or (λ option. Has rows option (number_of option options)) names i d lt (subst (λ (ns : List OptionName). All (λ option. Has rows option (number_of option options)) ns) (sym is)
    has.given))

-- words give them one number each
pub one_given : (command : CommandName) (rows : List Row) (a b : Options) → HasOptions command rows a → HasOptions command rows b → a ≡ b
one_given command rows a b first second =
    let same : All (λ option. number_of option a ≡ number_of option b) (options_of command) = λ k d lt. is_given rows _ _ (first.given k d lt) ∙ sym (is_given rows _ _ (second.given k d lt)) in
    first.others
    ∙ same_options (λ option. number_of option a) (λ option. number_of option b) (options_of command) no_options
    (recursion_from_All (λ option. number_of option a ≡ number_of option b) (options_of command) same)
    ∙ sym second.others

-- and each takes its number
pub are_taken : (command : CommandName) (rows : List Row) (options : Options) → HasOptions command rows options → AreValid command options
are_taken command rows options has =
    All-weaker (λ option. Has rows option (number_of option options)) (λ option. Takes option (number_of option options)) (λ option given. given.1) (options_of command) has.given

use Rattle.std.proofs.{Common.{subst, Option, List, ◌≡◌, [], ap, inl, inr, refl, sym, true, ◌∙◌}, lemmas.Result.{err_from_is_err_and}}
use Rattle.clap.{proofs.OnLiterals.{clap_on_literals}, specs.Kinds.{HasKind, IsAmong}, specs.declared.error.Error.{Error}}
use Rattle.clap.specs.Words.{subcommand_of, subcommand_rows_of, kind_of, Row, Text, App, HasMatchesOf, fault_of, is_simple}
use Rattle.clap.specs.{Words.{is_simple_and_free}, declared.parser.matches.ArgMatches.{ArgMatches}}
use Rattle.command_words.specs.{AcceptedWords.{program}, Calls.{IsCall, IsNoCall}, Words.{AreRefused, IsFromClap}}
use Rattle.command_words.specs.declared.refusal.{Refusal.{Refusal}, Refusal.TheVariants.{OutOfMemory, Words, Options}}
use Rattle.command_words.proofs.words.read_call.Goals as goal

-- The program's words are plain enough for clap to say what it makes of any words.
program_is_simple : is_simple program ≡ true
unfolding clap_on_literals
program_is_simple = refl

program_is_free : is_simple_and_free program ≡ true
unfolding clap_on_literals
program_is_free = refl

-- what a parse of the program's words found
found_in : (app : App) (words : List Text) (m : ArgMatches) → app ≡ program
    → (is_simple_and_free app ≡ true → fault_of app words ≡ []) → HasMatchesOf app words m →
    (fault_of program words ≡ []) × (subcommand_rows_of m ≡ subcommand_of program words)
found_in app words m same faults found = (
  subst (λ (a : App). fault_of a words ≡ []) same (faults (ap is_simple_and_free same ∙ program_is_free)),
  (found (ap is_simple same ∙ program_is_simple)).1 ∙ ap (λ (a : App). subcommand_of a words) same,
)

-- what a parse of them says that fails
refused_in : (app : App) (words : List Text) (error : Error) (refusal : Refusal) → app ≡ program
    → (is_simple_and_free app ≡ true → HasKind (fault_of app words) error) → IsFromClap error refusal → AreRefused words refusal
refused_in app words error OutOfMemory same kinds from = tt
refused_in app words error (Words e) same kinds from = elim (kinds (ap is_simple_and_free same ∙ program_is_free)) [
  | inl memory ↦ absurd (from.1 memory)
  | inr among ↦ subst (λ (a : App). IsAmong (kind_of e) (fault_of a words)) same
      (subst (λ (x : Error). IsAmong (kind_of x) (fault_of app words)) (sym from.0) among)
]
refused_in app words error (Options fault) same kinds from = absurd from

pub returns-in_err-call_of : goal.returns-in_err-call_of
returns-in_err-call_of c =
    let error = err_from_is_err_and c.from_residual-in_err-call_of.result c.from_residual-in_err-call_of.ensures.1 in
    let parse = c.in_ok-matches.ensures in
    let found = found_in _ _ c.in_ok-matches.matches c.in_ok-command.ensures parse.kinds parse.matches in
    rw (error.1, error.2) (found.0, subst IsNoCall found.1 c.in_err-call_of.ensures)

pub returns : goal.returns
returns c =
    let parse = c.in_ok-matches.ensures in
    let found = found_in _ _ c.in_ok-matches.matches c.in_ok-command.ensures parse.kinds parse.matches in
    (found.0, subst (λ (command : Option (Text × List Row)). IsCall command c.in_ok-call_of.field-0) found.1 c.in_ok-call_of.ensures)

pub returns-in_err-matches : goal.returns-in_err-matches
returns-in_err-matches c =
    let refusal = err_from_is_err_and c.from_residual-in_err-matches.result c.from_residual-in_err-matches.ensures.1 in
    rw refusal.1 (refused_in _ _ c.in_err-matches.field-0.0 refusal.0 c.in_ok-command.ensures c.in_err-matches.ensures.kinds refusal.2)

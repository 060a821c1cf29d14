-- The words mean at most one call.
use Rattle.std.proofs.Common.{◌≡◌, ◌∙◌, List, Option, Some, None, ap, subst, sym}
use Rattle.clap.specs.Words.{Row, Text, subcommand_of}
use Rattle.command_words.proofs.LawLemmas.{one_given, same_command}
use Rattle.command_words.specs.{AcceptedWords.{program}, Calls.{IsCall, Names}, Options.{HasOptions}, Words.{Mean}}
use Rattle.tool_call.specs.declared.{call.Call.{Call}, call.CommandName.{CommandName}, options.Options.{Options}}

abbrev call_of : CommandName → Options → Call
call_of command options = record { command = command; options = options }

same_call : (a b : Call) → a.command ≡ b.command → a.options ≡ b.options → a ≡ b
same_call a b command options =
    ap (λ (c : CommandName). call_of c a.options) command ∙ ap (λ (o : Options). call_of b.command o) options

one_named : (name : Text) (rows : List Row) (a b : Call) → Names name rows a → Names name rows b → a ≡ b
one_named name rows a b first second =
    let same = same_command b.command a.command (sym second.named ∙ first.named) in
    let options = subst (λ (c : CommandName). HasOptions c rows b.options) same second.options in
    same_call a b (sym same) (one_given a.command rows a.options b.options first.options options)

one_found : (command : Option (Text × List Row)) (a b : Call) → IsCall command a → IsCall command b → a ≡ b
one_found None a b first second = absurd first
one_found (Some command) a b first second = one_named command.0 command.1 a b first second

pub one_call : (words : List Text) (a b : Call) → Mean words a → Mean words b → a ≡ b
one_call words a b first second = one_found (subcommand_of program words) a b first.1 second.1

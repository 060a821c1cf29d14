-- Which call the words of a command mean.
use Rattle.std.specs.Prelude.{◌≡◌, List, Option, Some, None, Result, Ok, Err}
use Rattle.clap.specs.Words.{Row, Text}
use Rattle.command_words.specs.{AcceptedWords.{name_of}, Options.{HasOptions}}
use Rattle.tool_call.specs.declared.call.{Call.{Call}, CommandName.{CommandName}}

-- The command of this name, or that there is none.
abbrev pub IsNamed : Text → Option CommandName → Type 0
IsNamed name (Some command) = name ≡ name_of command
IsNamed name None = (command : CommandName) → name ≡ name_of command → ⊥

-- The words name this call: the command has this name, and its options have the numbers that they give them.
pub record Names (name : Text) (rows : List Row) (call : Call) : Type 0 where
  pub named : name ≡ name_of call.command
  pub options : HasOptions call.command rows call.options

-- What was read of them is such a call, or there is none.
abbrev pub IsCallNamed : {E : Type 0} → Text → List Row → Result Call E → Type 0
IsCallNamed name rows (Ok call) = Names name rows call
IsCallNamed name rows (Err fault) = (call : Call) → Names name rows call → ⊥

-- This is the call of a command and its options, as clap finds them in the words.
abbrev pub IsCall : Option (Text × List Row) → Call → Type 0
IsCall None call = ⊥
IsCall (Some command) call = Names command.0 command.1 call

abbrev pub IsNoCall : Option (Text × List Row) → Type 0
IsNoCall command = (call : Call) → IsCall command call → ⊥

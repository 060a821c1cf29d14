-- The call that words mean is one that its engine takes.
use Rattle.std.proofs.Common.{List, Option, Some, None}
use Rattle.clap.specs.Words.{Row, Text}
use Rattle.command_words.{proofs.LawLemmas.{are_taken}, specs.Calls.{IsCall}}
use Rattle.tool_call.specs.{Options.{IsValid}, declared.call.Call.{Call}}

pub call_is_valid : (command : Option (Text × List Row)) (call : Call) → IsCall command call → IsValid call
call_is_valid None call is = absurd is
call_is_valid (Some command) call is = are_taken call.command command.1 call.options is.options

use Rattle.std.proofs.Common.{take}
use Rattle.std.specs.List.{All}
use Rattle.tool_call.specs.{OptionTable.{number_of}, Options.{Takes}}
use Rattle.tool_call.proofs.call.Call.is_valid.Given as goal

abbrev pub invariant-loop-option : goal.invariant-loop-option
invariant-loop-option l = All (λ option. Takes option (number_of option l.self.options)) (take l.option-index l.option-items)

-- The answers of the commands over a class line and the counts after it.
use Rattle.std.specs.Prelude.{ℕ, List, Result}
use Rattle.mte_engine.specs.{FootprintOver.{footprint_after}, Outcome.{Answer}, Peaks.{peaks_after}, declared.fault.InputFault.{InputFault}}
use Rattle.mte_engine.specs.declared.table_command.{TableCommand.{TableCommand}, TableCommand.TheVariants.{Footprint, Peaks}}
use Rattle.tool_call.specs.declared.options.Options.{Options}

-- To a table, and the lines of the counts, which come after this many of their input.
abbrev pub answers_after : TableCommand → Options → List ℕ → ℕ → List (List ℕ) → Result Answer InputFault → Type 0
answers_after Footprint options = footprint_after options
answers_after Peaks options = peaks_after options

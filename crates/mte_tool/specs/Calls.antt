-- How the words of a command line come out.
use Rattle.std.specs.Prelude.{Result, Ok, Err}
use Rattle.command_words.specs.declared.refusal.Refusal.{Refusal}
use Rattle.mte_engine.specs.declared.{engine.Status.{Status}, fault.ToolFault.{ToolFault}}
use Rattle.mte_tool.specs.declared.running.{CallEnd.{CallEnd}, CallEnd.TheVariants.{Done, Failed, Refused}}

-- A call ran and ended so, or the words were refused so.
abbrev pub MatchEnd : CallEnd → (Result Status ToolFault → Type 0) → (Refusal → Type 0) → Type 0
MatchEnd (Done status) ran refused = ran (Ok status)
MatchEnd (Failed fault) ran refused = ran (Err fault)
MatchEnd (Refused refusal) ran refused = refused refusal

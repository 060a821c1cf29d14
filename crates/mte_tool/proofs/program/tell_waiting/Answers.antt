use Rattle.mte_tool.proofs.Ends.{silent_waits}
use Rattle.mte_tool.proofs.program.tell_waiting.Goals as goal

pub returns-else-at_terminal : goal.returns-else-at_terminal
returns-else-at_terminal g c = silent_waits _ c.requires

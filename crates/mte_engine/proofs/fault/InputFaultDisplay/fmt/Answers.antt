use Rattle.std.proofs.Common.{rules}
use Rattle.mte_engine.proofs.fault.InputFaultDisplay.fmt.Goals as goal

pub returns-in-Profile-clause-writes : goal.returns-in-Profile-clause-writes
returns-in-Profile-clause-writes g c = search rules

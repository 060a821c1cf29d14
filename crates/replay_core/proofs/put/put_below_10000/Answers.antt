use Rattle.std.proofs.Common.{append_assoc, arith}
use Rattle.replay_core.proofs.TwoDigits.{decimal_more}
use Rattle.replay_core.proofs.put.put_below_10000.Goals as goal

pub returns-clause-text : goal.returns-clause-text
returns-clause-text c = grind (arith, decimal_more, append_assoc)

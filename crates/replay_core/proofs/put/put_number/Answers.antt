use Rattle.std.proofs.Common.{append_assoc, arith}
use Rattle.replay_core.proofs.TwoDigits.{decimal_four_more}
use Rattle.replay_core.proofs.put.put_number.Goals as goal

pub returns-then-number-lt100000000-clause-text : goal.returns-then-number-lt100000000-clause-text
returns-then-number-lt100000000-clause-text c = grind (arith, decimal_four_more, append_assoc)

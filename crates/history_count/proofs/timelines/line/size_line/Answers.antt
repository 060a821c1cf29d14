use Rattle.std.{proofs.Common.{arith}}
use Rattle.history_count.proofs.TimelineLemmas.OnePass.{row-size}
use Rattle.history_count.proofs.timelines.line.size_line.Goals as goal

pub returns-clause-size : goal.returns-clause-size
returns-clause-size c = grind (arith, row-size)

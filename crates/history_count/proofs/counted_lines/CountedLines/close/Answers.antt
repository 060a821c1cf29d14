use Rattle.std.proofs.Common.{arith}
use Rattle.history_count.proofs.WideColumns.{first-all}
use Rattle.history_count.proofs.counted_lines.CountedLines.close.Goals as goal

pub returns : goal.returns
returns c = grind (arith, first-all)

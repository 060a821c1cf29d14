use Rattle.std.proofs.Common.{arith}
use Rattle.mte_engine.proofs.RowLines.{line_written}
use Rattle.mte_engine.proofs.sheet_writing.write_rows.Goals as goal

pub loop-done-preserved : goal.loop-done-preserved
loop-done-preserved c = grind (arith, line_written)

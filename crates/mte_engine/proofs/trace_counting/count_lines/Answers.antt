use Rattle.std.proofs.{Common.{arith}, lemmas.List.{length-append}}
use Rattle.mte_engine.proofs.CountedLines.{one_line_more}
use Rattle.mte_engine.proofs.trace_counting.count_lines.Goals as goal

pub loop-event-preserved : goal.loop-event-preserved
loop-event-preserved c = grind (arith, length-append, one_line_more)

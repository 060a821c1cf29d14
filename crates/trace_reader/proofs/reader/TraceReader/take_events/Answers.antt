use Rattle.std.proofs.{Common.{arith}, lemmas.Grind.{common_steps}}
use Rattle.trace_reader.proofs.reader.TraceReader.take_events.Goals as goal

pub loop-count-preserved : goal.loop-count-preserved
loop-count-preserved g c = grind (arith, common_steps)

pub returns-in_err-count-clause-way : goal.returns-in_err-count-clause-way
returns-in_err-count-clause-way g c = grind (arith, common_steps)

pub returns-then-count-eq0-clause-way : goal.returns-then-count-eq0-clause-way
returns-then-count-eq0-clause-way g c = grind (arith, common_steps)

pub loop-count-init : goal.loop-count-init
loop-count-init g c = grind (arith, common_steps)

use Rattle.std.proofs.Common.{ap, arith, length}
use Rattle.history_count.proofs.timelines.taking.take_lines.Goals as goal

pub lines-preserved : goal.lines-preserved
lines-preserved c = grind arith

pub lines-smaller : goal.lines-smaller
lines-smaller c = omega (arith, c.take_counted.ensures.fewer, ap length c.in-Some.ensures.steps)

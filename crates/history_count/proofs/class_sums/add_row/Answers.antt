use Rattle.std.proofs.Common.{sym, arith}
use Rattle.history_count.proofs.SumsOfClasses.{sums-before, sums-first, sums-more}
use Rattle.history_count.proofs.class_sums.add_row.Goals as goal

pub loop-t-init : goal.loop-t-init
loop-t-init c = sym (sums-first c.args.blocks.now c.args.counts.now)

pub overflow_add-blocks : goal.overflow_add-blocks
overflow_add-blocks c = grind (arith, sums-before)

pub loop-t-preserved : goal.loop-t-preserved
loop-t-preserved c = grind (arith, sums-more)

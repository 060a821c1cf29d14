use Rattle.std.proofs.Common.{sym, arith}
use Rattle.tuner_theory.{proofs.Lists.{lists-length}, specs.Lists.{lists_of}}
use Rattle.history_count.proofs.{Columns.{with_counts-length}, WideColumns.{with_counts-at, with_counts-more, with_counts-none}}
use Rattle.history_count.proofs.counted_lines.set_counts.Goals as goal

pub loop-t-init : goal.loop-t-init
loop-t-init c = record { so_far = sym (with_counts-none (lists_of c.args.columns.now.items) c.args.line) }

pub set_count-requires : goal.set_count-requires
set_count-requires c = grind (arith, with_counts-at, lists-length, with_counts-length)

pub loop-t-preserved : goal.loop-t-preserved
loop-t-preserved c = grind (arith, with_counts-more, lists-length)

use Rattle.std.proofs.Common.{arith}
use Rattle.std.proofs.lemmas.Option.{get_or_from_slice_get}
use Rattle.history_count.proofs.SumsOfClasses.{holds-later}
use Rattle.history_count.proofs.class_sums.ClassSums.close_below.Goals as goal

pub returns-else-class_end-size-clause-holds : goal.returns-else-class_end-size-clause-holds
returns-else-class_end-size-clause-holds c = λ snapshots next holds le.
    let sums = c.loop-self.self in
    let kept = c.loop-self.invariant.kept snapshots next holds le in
    let class = get_or_from_slice_get sums.table.now _ _ 0 c.class.ensures.class in
    holds-later sums.table.now c.len.ensures.legal sums.number sums.total sums.blocks.items sums.peaks snapshots kept.0 kept.2 c.args.size kept.1
    (λ within. omega (arith, class, c.class_end.ensures, c.if-class_end-size.false))

pub returns-after-loop-self-clause-holds : goal.returns-after-loop-self-clause-holds
returns-after-loop-self-clause-holds c = λ snapshots next holds le.
    let sums = c.loop-self.self in
    let kept = c.loop-self.invariant.kept snapshots next holds le in
    grind arith

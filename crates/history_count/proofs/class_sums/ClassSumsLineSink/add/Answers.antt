use Rattle.std.proofs.Common.{arith}
use Rattle.std.proofs.lemmas.List.{with_items_is}
use Rattle.history_count.proofs.{Peaks.{greatest-small}, SumsOfClasses.{blocks-small, holds-line}}
use Rattle.history_count.proofs.class_sums.ClassSumsLineSink.add.Goals as goal

pub add_row-requires-clause-few : goal.add_row-requires-clause-few
add_row-requires-clause-few c = grind (arith, blocks-small)

pub set_count-requires-clause-count : goal.set_count-requires-clause-count
set_count-requires-clause-count c = omega (arith, c.greatest.ensures, greatest-small c.args.counts.now c.requires.in_range)

pub returns-clause-classes : goal.returns-clause-classes
returns-clause-classes c = grind arith

pub returns-clause-taken : goal.returns-clause-taken
returns-clause-taken c = λ snapshots next holds le width.
    let sums = c.close_below.new.self in
    let held = c.close_below.ensures.holds snapshots next holds le in
    let line = holds-line sums.table.now c.len.ensures.legal sums.number sums.total sums.blocks.items sums.peaks snapshots c.args.size held
    c.args.size c.args.counts.now in
    grind (arith, with_items_is)

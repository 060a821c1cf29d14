use Rattle.std.proofs.Common.{arith}
use Rattle.history_count.proofs.RowEntries.{row-no_size, row-size}
use Rattle.history_count.proofs.line.row_entry.Goals as goal

pub returns-then-size-from : goal.returns-then-size-from
returns-then-size-from c = grind (arith, row-no_size)

pub returns : goal.returns
returns c = λ ws row.
    let is = row-size ws c.args.next c.args.size c.args.counts.now row (omega arith) in
    rw is.entry (c.check_entry.ensures is.numbers is.is)

use Rattle.std.proofs.Common.{◌≡◌, arith}
use Rattle.history_count.proofs.WideColumns.{no-lines}
use Rattle.history_count.proofs.counted_lines.CountedLines.new.Goals as goal

pub returns : goal.returns
returns c =
    let all : c.loop.counter ≡ c.args.count = omega arith in
    rw (c.new.ensures.items, c.loop.invariant.empty, all, c.in_ok-new.ensures) (no-lines c.args.count c.requires.some c.requires.few)

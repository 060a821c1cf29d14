use Rattle.std.proofs.Common.{◌≡◌, length, arith}
use Rattle.tuner_theory.{proofs.Lists.{lists-length}, specs.Lists.{lists_of}}
use Rattle.history_count.proofs.{CutLines.{few-lines}, Peaks.{greatest-small}, WideColumns.{first-length, line-more}}
use Rattle.history_count.proofs.counted_lines.CountedLines.add_line.Goals as goal

pub make_room-requires : goal.make_room-requires
make_room-requires c = grind (arith, first-length, lists-length, few-lines)

pub set_counts-requires : goal.set_counts-requires
set_counts-requires c = grind (arith, first-length, lists-length)

pub set_count-requires-clause-count : goal.set_count-requires-clause-count
set_count-requires-clause-count c = omega (arith, c.greatest.ensures, greatest-small c.args.counts.now c.requires.in_range)

pub returns : goal.returns
returns c = λ snapshots next so_far le width.
    let before = c.args.self.now in
    let is : c.len-line.result ≡ length before.sizes.items = omega arith in
    let made = c.in_ok-make_room.ensures in
    rw (c.in_ok-push.ensures.items, c.set_counts.ensures, is, c.set_count.ensures, c.greatest.ensures)
    (line-more before.sizes.items (lists_of before.columns.items) (lists_of c.make_room.new.columns.items) before.peaks c.args.size
    c.args.counts.now snapshots next so_far le width c.requires.size c.requires.in_range (rw is at made.kept)
    (rw is at made.room))

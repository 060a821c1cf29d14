use Rattle.std.proofs.Common.{◌+◌, arith}
use Rattle.history_count.proofs.counted_lines.make_room.Goals as goal

pub returns-clause-room : goal.returns-clause-room
returns-clause-room c = record {
  room = c.args.lines + 64;
  wide = c.in_ok-resize_columns.ensures.wide;
  within = omega arith;
}

pub returns-clause-kept : goal.returns-clause-kept
returns-clause-kept c = grind arith

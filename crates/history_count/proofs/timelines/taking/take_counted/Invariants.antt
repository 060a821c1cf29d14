use Rattle.std.proofs.Common.{◌≡◌, ◌+◌, ◌≤◌, None, length, vec_capacity, vec_len}
use Rattle.history_count.specs.Timelines.Pieces.{AreTaken}
use Rattle.history_count.proofs.timelines.taking.take_counted.Given as goal

abbrev pub invariant-loop-turn : goal.invariant-loop-turn
invariant-loop-turn l = record {
  taken : AreTaken l.fn.events.items l.events.items None l.live l.fn.lines l.lines;
  fewer : length l.lines ≤ length l.fn.lines;
  len : vec_len l.events ≡ vec_len l.fn.events + l._turn;
  capacity : vec_capacity l.events ≡ vec_capacity l.fn.events;
}

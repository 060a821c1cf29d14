use Rattle.std.proofs.Common.{◌≡◌, ◌*◌, ◌≤◌, ◌^◌, take, sum_by}
use Rattle.history_count.specs.Timelines.LiveBlocks.{class_bytes}
use Rattle.history_count.proofs.timelines.footprint.measure_over.Given as goal

abbrev pub invariant-loop-number : goal.invariant-loop-number
invariant-loop-number l = record {
  sum : l.total ≡ sum_by (class_bytes l.events l.table) (take l.number l.table);
  small : l.total ≤ l.number * 2 ^ 45;
}

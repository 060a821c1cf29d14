use Rattle.std.proofs.Common.{◌≡◌, ◌+◌, ◌≤◌, ℕ, List, All, false, length}
use Rattle.class_table.specs.Sizes.{largest_counted}
use Rattle.tuner_theory.specs.Profiles.{greatest_count}
use Rattle.history_count.specs.HistoryText.{first_reading, history_from}
use Rattle.history_count.proofs.history_reading.read_into.Given as goal

abbrev pub invariant-lines : goal.invariant-lines
invariant-lines g l = record {
  snapshots : List (List ℕ);
  classes : g.S.LineSink.classes l.sink ≡ g.S.LineSink.classes l.fn.sink;
  taken : g.S.LineSink.has_taken l.sink snapshots l.next;
  rest : history_from 2 (first_reading l.count) l.fn.lines ≡ history_from (l.number + 1) (record {
    history = record { snapshots = snapshots; large = l.large.items };
    next = l.next;
    is_ended = l.is_ended;
  }) l.lines;
  width : length snapshots ≡ length l.large.items;
  few : All (λ count. count ≤ greatest_count) l.large.items;
  places : length l.counts.items ≡ length l.large.items;
  sizes : l.next ≤ largest_counted + 1;
  lines : l.number ≤ l.next + 2;
  lines_of_sizes : l.is_ended ≡ false → l.number ≤ l.next + 1;
}

abbrev pub decreases-lines : goal.decreases-lines
decreases-lines g l = length l.lines

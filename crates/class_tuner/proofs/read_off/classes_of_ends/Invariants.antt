use Rattle.std.proofs.Common.{◌≡◌, ◌-◌, ◌≤◌, ◌++◌, length}
use Rattle.tuner_theory.specs.{Lists.{lists_of}, Rows.{number_at, table_of_ends}, Spans.{need_at, places}, Tuned.{tuned_table}}
use Rattle.class_tuner.proofs.read_off.classes_of_ends.Given as goal

abbrev pub invariant-loop-done : goal.invariant-loop-done
invariant-loop-done l = record {
  read : l.classes.items ++ table_of_ends (need_at l.spans.counts l.spans.step) (number_at (lists_of l.ends))
      (places l.spans.counts l.spans.step) (l.limit - l.done) l.place
      ≡ tuned_table l.spans.counts l.spans.step l.limit (number_at (lists_of l.ends));
  within : l.place ≤ places l.spans.counts l.spans.step;
  few : length l.classes.items ≤ l.done;
}

use Rattle.std.{proofs.Common.{◌≡◌, ◌+◌, ◌-◌, ◌*◌, ◌<◌, ◌≤◌, length, get_or}, specs.List.{position_or_len}}
use Rattle.class_table.specs.Sizes.{largest_counted, serves}
use Rattle.tuner_theory.specs.{Profiles.{greatest_count}, Waste.{sum_below, waste_at}}
use Rattle.profile_count.proofs.waste_and_unserved.table_losses.Given as goal

abbrev pub invariant-loop-number : goal.invariant-loop-number
invariant-loop-number l = record {
  summed : l.total ≡ sum_below (waste_at l.counts l.table) l.from;
  small : l.total ≤ largest_counted * greatest_count * l.from;
  inside : l.from ≤ largest_counted + 1;
  before : l.number < length l.table → l.from < 16 * get_or l.table l.number 0 - 15;
  ready : l.number ≤ position_or_len (serves l.from) l.table;
}

use Rattle.std.proofs.Common.{◌≡◌, ℕ, ◌+◌, ◌-◌, ◌*◌, ◌<◌, ◌≤◌, slice_index}
use Rattle.class_table.specs.Sizes.{largest_counted}
use Rattle.tuner_theory.specs.{Profiles.{greatest_count}, Waste.{sum_below}}
use Rattle.profile_count.proofs.waste_and_unserved.losses_between.Given as goal

abbrev pub invariant-loop-n : goal.invariant-loop-n
invariant-loop-n l = record {
  sum : (f : ℕ → ℕ) → ((k : ℕ) → l.fn.from ≤ k → k < l.end → f k ≡ slice_index l.counts k * (l.end - 1 - k)) →
      sum_below f l.n ≡ sum_below f l.fn.from + l.total;
  small : l.total ≤ largest_counted * greatest_count * (l.n - l.fn.from);
}

use Rattle.std.proofs.Common.{◌≡◌, ◌+◌, ◌≤◌, drop, length, min}
use Rattle.class_table.specs.Sizes.{largest_counted}
use Rattle.mte_c.specs.Arrays.Spelled.{profile_from, profile_of_arrays}
use Rattle.mte_c.proofs.arrays.counting.count.Given as goal

abbrev pub invariant-loop-index : goal.invariant-loop-index
invariant-loop-index l = record {
  rest : profile_of_arrays l.sizes l.counts ≡ profile_from l.index l.profile l.next (drop l.index l.sizes) (drop l.index l.counts);
  sizes : l.next ≤ largest_counted + 1;
  ends : l.entries ≡ min (length l.sizes) (length l.counts);
}

use Rattle.std.proofs.Common.{◌≡◌, ◌++◌, drop, length, take}
use Rattle.mte_c.proofs.arrays.tuning.put_classes.Given as goal

abbrev pub invariant-loop-number : goal.invariant-loop-number
invariant-loop-number l = record {
  written : l.classes ≡ take l.number l.table ++ drop l.number l.initial.classes;
  ends : l.number-end ≡ length l.table;
}

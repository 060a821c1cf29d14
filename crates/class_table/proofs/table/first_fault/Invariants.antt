use Rattle.std.proofs.Common.{◌≡◌, drop}
use Rattle.class_table.specs.Faults.{fault_from}
use Rattle.class_table.proofs.table.first_fault.Given as goal

abbrev pub invariant-loop-class : goal.invariant-loop-class
invariant-loop-class l = fault_from 0 l.classes ≡ fault_from l.below (drop l.class-index l.classes)

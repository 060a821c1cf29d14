use Rattle.std.proofs.Common.{arith, sym}
use Rattle.class_table.proofs.Legal.{classes-from_no_fault, legal_table_of_classes}
use Rattle.class_table.proofs.table.ClassTable.from_few.Goals as goal

pub invariant_of-result : goal.invariant_of-result
invariant_of-result c =
    rw (← c.deref.ensures.0) (legal_table_of_classes 1 1 c.deref.result.now (omega arith) c.deref.ensures.1
    (classes-from_no_fault c.deref.result.now (sym c.in-None.ensures)))

pub returns-in-None-clause-legal : goal.returns-in-None-clause-legal
returns-in-None-clause-legal c = invariant_of-result c

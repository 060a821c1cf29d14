use Rattle.std.proofs.Common.{arith}
use Rattle.class_table.proofs.{ClassOf.{length-firsts_of, get_or-firsts_of}, FirstSlots.{first_slot-few}}
use Rattle.class_table.proofs.layout.Layout.first_slot.Goals as goal

pub bounds-deref-number : goal.bounds-deref-number
bounds-deref-number c = grind (arith, length-firsts_of)

pub returns-clause-first : goal.returns-clause-first
returns-clause-first c = grind (arith, get_or-firsts_of)

pub returns-clause-few : goal.returns-clause-few
returns-clause-few c = grind (arith, returns-clause-first, first_slot-few)

use Rattle.std.proofs.Common.{ℕ, ◌+◌, ◌-◌, ◌*◌, ◌≤◌, get_or, ◌∙◌, sym, ap, subst, arith}
use Rattle.class_table.proofs.{ClassOf.{slot_by_its_class, slots_of_classes_are_slots}, Slots.{legal_slots_are_in_order}}
use Rattle.class_table.specs.Layout.{IsClassOf, IsPartition, Partition, Slot, end_of, first_slot, share_of}
use Rattle.class_table.proofs.layout.Layout.slot_of_class.Goals as goal

inside : (layout : Partition) (slot number : ℕ) → IsPartition layout → IsClassOf layout slot number →
    share_of layout * number + get_or layout.classes number 0 * (slot - first_slot layout number) + get_or layout.classes number 0 ≤ layout.granules
inside layout slot number legal is =
    subst (λ (slot : Slot). end_of slot ≤ layout.granules) (slot_by_its_class layout slot number is)
    ((legal_slots_are_in_order 1 layout legal.table).inside slot (slots_of_classes_are_slots layout slot number is))

pub overflow_mul-result-2 : goal.overflow_mul-result-2
overflow_mul-result-2 c = grind (arith, inside)

pub overflow_add-result : goal.overflow_add-result
overflow_add-result c = grind (arith, inside)

pub returns-clause-start : goal.returns-clause-start
returns-clause-start c = grind (arith, slot_by_its_class)

pub returns-clause-class : goal.returns-clause-class
returns-clause-class c = c.class-class.ensures.class ∙ sym (ap (λ (slot : Slot). slot.class) (slot_by_its_class _ _ _ c.requires))

pub returns-clause-inside : goal.returns-clause-inside
returns-clause-inside c = grind (arith, inside)

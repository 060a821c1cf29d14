-- Which slots a class has.
use Rattle.std.proofs.Common.{◌≡◌, ℕ, ◌+◌, ◌<◌, ◌≤◌, length, sym, ap, ◌∙◌, subst, slice_index}
use Rattle.class_table.proofs.LawLemmas.{each_slot_has_a_class, slot_by_its_class, slots_of_classes_are_slots}
use Rattle.class_table.specs.{Layout.{Partition, Slot, IsClassOf, slot_of, slot_count, first_slot}, Tables.{IsLegalTable}}
use Rattle.heap_theory.proofs.Marks.{one_number}

class_of : (layout : Partition) (s number : ℕ) → IsClassOf layout s number →
    (slot_of layout s).class ≡ slice_index layout.classes number
class_of layout s number is = ap (λ (slot : Slot). slot.class) (slot_by_its_class layout s number is)

-- the slots from a class's first one on are the class's
pub in_share : (layout : Partition) (number s : ℕ) → number < length layout.classes → first_slot layout number ≤ s →
    s < first_slot layout (number + 1) → (s < slot_count layout) × ((slot_of layout s).class ≡ slice_index layout.classes number)
in_share layout number s within from to =
    let is : IsClassOf layout s number = record { within = within; from = from; to = to } in
    (slots_of_classes_are_slots layout s number is, class_of layout s number is)

-- and a slot of that class is one of them
pub share_of_slot : (layout : Partition) (number s : ℕ) → IsLegalTable 1 layout.classes → number < length layout.classes →
    s < slot_count layout → (slot_of layout s).class ≡ slice_index layout.classes number → IsClassOf layout s number
share_of_slot layout number s legal within in_range class =
    let own = each_slot_has_a_class layout s in_range in
    let same : own.0 ≡ number =
    one_number 1 layout.classes own.0 number legal own.1.within within (sym (class_of layout s own.0 own.1) ∙ class) in
    subst (IsClassOf layout s) same own.1

-- The class of a slot, by the first slots of all classes.
use Rattle.std.proofs.Common.{◌≡◌, ℕ, ◌+◌, ◌-◌, ◌*◌, ◌<◌, ◌≤◌, List, length, map, get_or, sym, ◌∙◌, ap, subst, arith, zero-add, inl, inr}
use Rattle.std.proofs.{Common.{slice_get, slice_index, Some}, lemmas.Bool.{cases_lt}, lemmas.Option.{slice_get-get_or}}
use Rattle.std.{proofs.lemmas.List.FromFn.{length-map-range_with_len, get_or-map-range_with_len}, specs.List.{range_with_len}}
use Rattle.std.specs.List.Sorted.{IsNonDecreasingBy}
use Rattle.class_table.proofs.FirstSlots.{first_slot-suc, first_slots_ascend, first_slot-most}
use Rattle.class_table.proofs.Slots.{place_of, slot_of-class, slots_of_classes_are_all}
use Rattle.class_table.specs.Layout.{Partition, Slot, IsClassOf, share_of, slot_count, slot_of, first_slot}

-- the first slots of all classes, and the number of slots after them
abbrev pub firsts_of : Partition → List ℕ
firsts_of layout = map (first_slot layout) (range_with_len 0 (length layout.classes + 1))

pub length-firsts_of : (layout : Partition) → length (firsts_of layout) ≡ length layout.classes + 1
length-firsts_of layout = length-map-range_with_len (first_slot layout) 0 (length layout.classes + 1)

pub get_or-firsts_of : (layout : Partition) (number d : ℕ) → number ≤ length layout.classes →
    get_or (firsts_of layout) number d ≡ first_slot layout number
get_or-firsts_of layout number d within = grind (arith, get_or-map-range_with_len, zero-add)

pub firsts_of-ascending : (layout : Partition) → IsNonDecreasingBy (λ first. first) (firsts_of layout)
firsts_of-ascending layout a b d le within = grind (arith, length-firsts_of, get_or-firsts_of, first_slots_ascend)

-- the last of them is above each slot
pub last_of_firsts : (layout : Partition) (slot : ℕ) → slot < slot_count layout →
    slot < slice_index (firsts_of layout) (length (firsts_of layout) - 1)
last_of_firsts layout slot within = grind (arith, length-firsts_of, get_or-firsts_of, slots_of_classes_are_all)

pub class_of_point : (layout : Partition) (slot point : ℕ) → slot < slot_count layout → point ≤ length (firsts_of layout) →
    ((k d : ℕ) → k < length (firsts_of layout) → k < point → get_or (firsts_of layout) k d ≤ slot) →
    ((k d : ℕ) → point ≤ k → k < length (firsts_of layout) → slot < get_or (firsts_of layout) k d) →
    (1 ≤ point) × IsClassOf layout slot (point - 1)
class_of_point layout slot point within bound below above =
    let long = length-firsts_of layout in
    let all = slots_of_classes_are_all layout in
    let some : 1 ≤ point = elim (cases_lt 0 point) [
      | inl some ↦ some
      | inr none ↦
          let first : slot < first_slot layout 0 =
          subst (λ n. slot < n) (get_or-firsts_of layout 0 0 (omega arith)) (above 0 0 none (omega arith)) in
          absurd (omega arith)
    ] in
    let not_all : point ≤ length layout.classes = elim (cases_lt (length layout.classes) point) [
      | inr most ↦ most
      | inl past ↦
          let last : first_slot layout (length layout.classes) ≤ slot =
          subst (λ n. n ≤ slot) (get_or-firsts_of layout (length layout.classes) 0 (omega arith))
          (below (length layout.classes) 0 (omega arith) past) in
          absurd (omega arith)
    ] in
    let same : point - 1 + 1 ≡ point = omega arith in (
      some,
      record {
        within = omega arith;
        from =
            subst (λ n. n ≤ slot) (get_or-firsts_of layout (point - 1) 0 (omega arith)) (below (point - 1) 0 (omega arith) (omega arith));
        to = subst (λ n. slot < first_slot layout n) (sym same)
            (subst (λ n. slot < n) (get_or-firsts_of layout point 0 not_all) (above point 0 (omega arith) (omega arith)));
      },
    )

-- the slot, by the number of its class
pub slot_by_its_class : (layout : Partition) (slot number : ℕ) → IsClassOf layout slot number →
    slot_of layout slot ≡ record {
      start = share_of layout * number + get_or layout.classes number 0 * (slot - first_slot layout number);
      class = get_or layout.classes number 0;
    }
slot_by_its_class layout slot number is =
    let next = first_slot-suc layout number is.within in
    let place : slot ≡ first_slot layout number + (slot - first_slot layout number) = omega (arith, is.from) in
    ap (slot_of layout) place ∙ slot_of-class layout number (slot - first_slot layout number) is.within (omega (arith, is.from, is.to))

pub class_is : (layout : Partition) (slot number : ℕ) → IsClassOf layout slot number →
    slice_get layout.classes number ≡ Some (slot_of layout slot).class
class_is layout slot number is =
    slice_get-get_or layout.classes number 0 is.within
    ∙ ap Some (sym (ap (λ (slot : Slot). slot.class) (slot_by_its_class layout slot number is)))

-- each slot has a class
pub each_slot_has_a_class : (layout : Partition) (slot : ℕ) → slot < slot_count layout → (number : ℕ) × IsClassOf layout slot number
each_slot_has_a_class layout slot within =
    let place = place_of layout slot within in
    grind (arith, first_slot-suc)

-- and the slots that have one are slots of the layout
pub slots_of_classes_are_slots : (layout : Partition) (slot number : ℕ) → IsClassOf layout slot number → slot < slot_count layout
slots_of_classes_are_slots layout slot number is = omega (arith, is.to, first_slot-most layout (number + 1))

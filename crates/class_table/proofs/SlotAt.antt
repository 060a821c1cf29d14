-- Which slot covers a granule, by arithmetic on the share.
use Rattle.std.proofs.Common.{◌≡◌, ℕ, ◌+◌, ◌-◌, ◌*◌, ◌/◌, ◌%◌, ◌<◌, ◌≤◌, length, get_or, Option, Some, None, refl, sym, ◌∙◌, ap, arith}
use Rattle.std.proofs.lemmas.Nat.{mul-le, div-add-mod', mod-mul-add, mod_below}
use Rattle.class_table.proofs.{Covering.{one_slot_covers}, FirstSlots.{first_slot-suc, first_slot-most}}
use Rattle.class_table.proofs.Slots.{Place, place_of, slot_of-class}
use Rattle.class_table.specs.Layout.{Partition, IsPartition, Slot, share_of, slot_count, slot_of, first_slot, Covers, slot_over}

record IsAt (share granule number class k : ℕ) : Type 0 where
  number_is : number ≡ granule / share
  k_is : k ≡ granule % share / class

divided : (share granule number class k : ℕ) → k < share / class → share * number + class * k ≤ granule →
    granule < share * number + class * k + class → IsAt share granule number class k
divided share granule number class k fits from to =
    let product : (k + 1) * class ≤ share / class * class = mul-le (k + 1) class (share / class) class (omega arith) (omega arith) in
    let split : share / class * class + share % class ≡ share = div-add-mod' share class in
    let inner : ℕ = granule - share * number in
    let below : inner < share = omega arith in
    let whole : granule ≡ number * share + inner = omega arith in
    grind (arith, mod-mul-add)

-- where a slot stands that covers the granule
covered : (layout : Partition) (granule s : ℕ) (place : Place layout s) → Covers (slot_of layout s) granule →
    IsAt (share_of layout) granule place.number (get_or layout.classes place.number 0) place.k
covered layout granule s place at = grind (arith, slot_of-class, divided)

-- no slot is found where none covers the granule
none_over : (layout : Partition) (granule : ℕ) → IsPartition layout →
    ((s : ℕ) → s < slot_count layout → Covers (slot_of layout s) granule → ⊥) → None ≡ slot_over layout granule
none_over layout granule is none = by (slot_over layout granule) refl
  where
    by : (found : Option ℕ) → slot_over layout granule ≡ found → None ≡ found
    by None was = refl
    by (Some s) was = let at = (one_slot_covers 1 layout granule s is.table).0 was in absurd (none s at.0 at.1)

pub none_without_share : (layout : Partition) (granule : ℕ) → IsPartition layout → share_of layout ≡ 0 → None ≡ slot_over layout granule
none_without_share layout granule is no_share = none_over layout granule is (λ s within at.
    let place = place_of layout s within in
    grind arith)

pub none_past_shares : (layout : Partition) (granule : ℕ) → IsPartition layout → length layout.classes ≤ granule / share_of layout →
    None ≡ slot_over layout granule
none_past_shares layout granule is past = none_over layout granule is (λ s within at.
    let place = place_of layout s within in
    let where_is = covered layout granule s place at in
    omega (arith, place.within, where_is.number_is))

-- where no slot of the granule's share covers it, none does
pub none_after_slots : (layout : Partition) (granule : ℕ) → IsPartition layout → granule / share_of layout < length layout.classes →
    share_of layout / get_or layout.classes (granule / share_of layout) 0 ≤ granule % share_of layout / get_or layout.classes
    (granule / share_of layout) 0 →
    None ≡ slot_over layout granule
none_after_slots layout granule is within past = none_over layout granule is (λ s inside at.
    let place = place_of layout s inside in
    grind (arith, covered))

-- a place is a slot's exactly where its number is below the next class's first slot
module _ (layout : Partition) (share number class k first next : ℕ) (share_is : share ≡ share_of layout)
    (class_is : class ≡ get_or layout.classes number 0) (within : number < length layout.classes)
    (first_is : first ≡ first_slot layout number) (next_is : next ≡ first_slot layout (number + 1)) where
  counted : next ≡ first + share / class
  counted = next_is ∙ first_slot-suc layout number within ∙ (λ i. sym first_is i + sym share_is i / sym class_is i)

  pub place_fits : first + k < next → k < share / class
  place_fits below = omega (arith, counted, below)

  pub place_after : next ≤ first + k → share / class ≤ k
  place_after past = omega (arith, counted, past)

-- and else it is the slot at that place
pub some_in_share : (layout : Partition) (granule s : ℕ) → IsPartition layout → granule / share_of layout < length layout.classes →
    granule % share_of layout / get_or layout.classes (granule / share_of layout) 0 < share_of layout / get_or layout.classes
    (granule / share_of layout) 0 →
    s ≡ first_slot layout (granule / share_of layout) + granule % share_of layout / get_or layout.classes (granule / share_of layout) 0 →
    Some s ≡ slot_over layout granule
some_in_share layout granule s is within fits place =
    let share = share_of layout in
    let number = granule / share in
    let class = get_or layout.classes number 0 in
    let k = granule % share / class in
    let slot : slot_of layout s ≡ record { start = share * number + class * k; class = class } =
    ap (slot_of layout) place ∙ slot_of-class layout number k within fits in
    let start : (slot_of layout s).start ≡ share * number + class * k = ap (λ (slot : Slot). slot.start) slot in
    let width : (slot_of layout s).class ≡ class = ap (λ (slot : Slot). slot.class) slot in
    let whole : number * share + granule % share ≡ granule = div-add-mod' granule share in
    let inner : k * class + granule % share % class ≡ granule % share = div-add-mod' (granule % share) class in
    let wide : 2 ≤ class = (is.table.in_range number 0 within).0 in
    let less : granule % share % class < class = mod_below (granule % share) class (omega arith) in
    let inside : s < slot_count layout = omega (arith, first_slot-suc layout number within, first_slot-most layout (number + 1)) in
    sym ((one_slot_covers 1 layout granule s is.table).1 (inside, record { from = omega arith; to = omega arith }))

-- which begins so many granules before
pub place_in_share : (layout : Partition) (granule : ℕ) → granule / share_of layout < length layout.classes →
    granule % share_of layout / get_or layout.classes (granule / share_of layout) 0 < share_of layout / get_or layout.classes
    (granule / share_of layout) 0 →
    (slot_of layout (first_slot layout (granule / share_of layout) + granule % share_of layout / get_or layout.classes
    (granule / share_of layout) 0)).start
    + granule % share_of layout % get_or layout.classes (granule / share_of layout) 0 ≡ granule
place_in_share layout granule within fits = grind (arith, slot_of-class, div-add-mod')

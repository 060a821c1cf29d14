-- The slot that covers a granule.
use Rattle.std.proofs.{Common.{◌≡◌, ℕ, ◌<◌, ◌≤◌, true, Some, arith, ◌↔◌}, lemmas.List.Quantifiers.{position-Some}}
use Rattle.std.proofs.lemmas.{Bool.{and_from, le-leb, lt-ltb, false_from_ne_true}, List.Sums.{position_or_len_is}}
use Rattle.std.specs.List.{position_or_len}
use Rattle.class_table.{proofs.Slots.{legal_slots_are_in_order}, specs.Tables.{IsLegalTable}}
use Rattle.class_table.specs.Layout.{Partition, Slot, no_slot, end_of, slots_of, slot_count, slot_of, Covers, covers, slot_over}

pub Covers-true : (slot : Slot) (granule : ℕ) → covers slot granule ≡ true → Covers slot granule
Covers-true slot granule test = grind arith

pub true-Covers : (slot : Slot) (granule : ℕ) → Covers slot granule → covers slot granule ≡ true
true-Covers slot granule it = and_from _ _ (le-leb slot.start granule it.from) (lt-ltb granule (end_of slot) it.to)

-- two slots that cover one granule are one
one_covers : (step : ℕ) (layout : Partition) (granule s r : ℕ) → IsLegalTable step layout.classes → r < s → s < slot_count layout →
    Covers (slot_of layout s) granule → Covers (slot_of layout r) granule → ⊥
one_covers step layout granule s r legal before within at_s at_r =
    let apart : end_of (slot_of layout r) ≤ (slot_of layout s).start = (legal_slots_are_in_order step layout legal).apart r s before within in
    omega (arith, at_s.from, at_r.to)

pub one_slot_covers : (step : ℕ) (layout : Partition) (granule s : ℕ) → IsLegalTable step layout.classes →
    (slot_over layout granule ≡ Some s) ↔ ((s < slot_count layout) × Covers (slot_of layout s) granule)
unfolding slot_over
one_slot_covers step layout granule s legal = (found, finds)
  where
    found : slot_over layout granule ≡ Some s → (s < slot_count layout) × Covers (slot_of layout s) granule
    found is =
        let first = position-Some (λ slot. covers slot granule) (slots_of layout) s no_slot is in
        (first.0, Covers-true (slot_of layout s) granule first.1)

    finds : (s < slot_count layout) × Covers (slot_of layout s) granule → slot_over layout granule ≡ Some s
    finds at =
        let place : position_or_len (λ slot. covers slot granule) (slots_of layout) ≡ s =
        position_or_len_is (λ slot. covers slot granule) (slots_of layout) s no_slot (omega (arith, at.0))
        (λ r before. false_from_ne_true (covers (slot_of layout r) granule)
        (λ test. one_covers step layout granule s r legal before at.0 at.1 (Covers-true (slot_of layout r) granule test)))
        (λ within. true-Covers (slot_of layout s) granule at.1) in
        grind arith

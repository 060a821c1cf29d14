use Rattle.std.proofs.Common.{◌≡◌, ◌<◌, sym, ap, ◌∙◌, arith, Some, ℕ, ◌+◌, ◌-◌, ◌/◌, Option}
use Rattle.class_table.specs.Layout.{slot_of, Partition, IsPartition, slot_count, slot_over}
use Rattle.heap_theory.specs.State.{payload_place}
use Rattle.machine_theory.specs.Address.{region_start}
use Rattle.tagged_heap.proofs.pointers.slot_of_pointer.Goals as goal
use Rattle.tagged_heap.proofs.TheoryLemmas as laws

-- The slot whose payload begins at a place.
module _ (layout : Partition) (is : IsPartition layout) where
  -- the granule of a place at which a slot's payload begins
  payload_granule : (s place : ℕ) → s < slot_count layout → place ≡ payload_place (slot_of layout s) →
      (place - region_start) / 16 ≡ (slot_of layout s).start + 1
  payload_granule s place within at = omega (arith, at)

  payload_inside : (s place : ℕ) → s < slot_count layout → place ≡ payload_place (slot_of layout s) →
      (place - region_start) / 16 < layout.granules
  payload_inside s place within at =
      let order = laws.in_order 1 layout is.table in
      omega (arith, at, order.inside s within, order.wide s within)

  payload_covered : (s place : ℕ) → s < slot_count layout → place ≡ payload_place (slot_of layout s) →
      slot_over layout ((place - region_start) / 16) ≡ Some s
  payload_covered s place within at =
      let order = laws.in_order 1 layout is.table in
      let granule = payload_granule s place within at in
      (laws.covers 1 layout ((place - region_start) / 16) s is.table).1
      (within, record { from = omega (arith, granule); to = omega (arith, granule, order.wide s within) })

  payload_found : (s place g : ℕ) → s < slot_count layout → place ≡ payload_place (slot_of layout s) → g ≡ (place - region_start) / 16 →
      slot_over layout g ≡ Some s
  payload_found s place g within at is = ap (slot_over layout) is ∙ payload_covered s place within at

  covered_within : (g s : ℕ) (found : Option ℕ) → found ≡ slot_over layout g → found ≡ Some s → s < slot_count layout
  covered_within g s found over is_found = ((laws.covers 1 layout g s is.table).0 (sym over ∙ is_found)).0

pub returns-then-plain-ne1-clause-none : goal.returns-then-plain-ne1-clause-none
returns-then-plain-ne1-clause-none c s within plain at =
    let is = c.granules.ensures.partition in
    let place = c.place_of.ensures ∙ at in
    c.if-plain-ne1.true (omega (arith, payload_inside c.args.layout.now is s c.place_of.result within place, place, plain, is.most))

pub returns-then-before-eq1-clause-slot : goal.returns-then-before-eq1-clause-slot
returns-then-before-eq1-clause-slot c = grind (arith, covered_within)

pub returns-in_err-slot-clause-none : goal.returns-in_err-slot-clause-none
returns-in_err-slot-clause-none c = grind (arith, payload_found)

pub returns-else-before-eq1-clause-none : goal.returns-else-before-eq1-clause-none
returns-else-before-eq1-clause-none c s within plain at = grind (arith, payload_found)

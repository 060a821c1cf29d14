-- A request gets a slot where its class has more slots than live blocks, and the quarantine has no room for the rest.
use Rattle.std.proofs.Common.{◌≡◌, ℕ, zero, suc, ◌+◌, ◌-◌, ◌*◌, ◌/◌, ◌<◌, ◌≤◌, ◌&&◌, false, cond, eqb, leb, ltb, List, [], ◌∷◌}
use Rattle.std.proofs.Common.{length, min, get_or, refl, sym, ap, subst, ◌∙◌, Some, None, Ok, IsOk, arith, Contains}
use Rattle.std.proofs.lemmas.{Bool.{cases_Bool, cases_eq, cases_lt}, Bool.Decides.{nat_tests}, Nat.{le-div}}
use Rattle.std.proofs.lemmas.List.{get_or_default, Elements.{All-contains, All-weaker, All-contains_itself}}
use Rattle.class_table.proofs.{FirstSlots.{first_slot-most, first_slot-suc}, LawLemmas.{each_slot_has_a_class, slot_by_its_class}}
use Rattle.class_table.specs.Layout.{IsPartition, Partition, Slot, first_slot, share_of, slot_count, slot_of}
use Rattle.class_table.specs.{Sizes.{IsBlockSize, largest_counted}, Tables.{IsLegalTable, class_for}}
use Rattle.footprint_theory.proofs.{Chosen.{none_left, request_served}, Growing.{last_snapshot}, LargeSizes.{last-counted}}
use Rattle.footprint_theory.proofs.LawLemmas.{last}
use Rattle.footprint_theory.proofs.{Counted.{blocks_are}, Moments.{IsAt, released-same}, Peaks.{freed-bytes, taken-below}}
use Rattle.footprint_theory.proofs.{Runs.{IsAfter}, Slots.{freed_in, sum_by_states, taken_in}}
use Rattle.footprint_theory.specs.{Calls.{Call, IsRun, counted_events, heap_of}, Room.{HasRoom, granules_needed, greatest_of, slots_needed}}
use Rattle.heap_theory.proofs.{ListSearch.{Contains-head, Contains-tail, Contains-cases, Contains-none}, Marks.{one_number}}
use Rattle.heap_theory.specs.{Lookups.{slot_for, slot_for_request}, State.{State, Heap, is_fresh, state_at}, State.State.{Fresh}}
use Rattle.tuner_theory.proofs.Sums.{sum_at_most, sum_below-more, sum_below-none, sum_same}
use Rattle.tuner_theory.specs.{Footprint.{blocks}, Timelines.{snapshot_at}, Waste.{sum_below}, declared.size_event.SizeEvent.{SizeEvent}}

-- ---- how many slots a class has

abbrev pub slots_in : Partition → ℕ → ℕ
slots_in layout class = sum_below (λ s. cond (eqb (slot_of layout s).class class) 1 0) (slot_count layout)

between : (a b m : ℕ) → a ≤ b → sum_below (λ s. cond (leb a s && ltb s b) 1 0) m ≡ min b m - min a m
between a b zero le = omega (arith, sum_below-none (λ s. cond (leb a s && ltb s b) 1 0))
between a b (suc m) le = grind (arith, nat_tests, sum_below-more, between a b m le)

module _ (layout : Partition) (class : ℕ) (legal : IsLegalTable 1 layout.classes) where
  -- the slots of a class are those of its number
  in-range : (number s : ℕ) → number < length layout.classes → get_or layout.classes number 0 ≡ class → s < slot_count layout →
      cond {A = ℕ} (eqb (slot_of layout s).class class) 1 0
      ≡ cond (leb (first_slot layout number) s && ltb s (first_slot layout (number + 1))) 1 0
  in-range number s within is lt = tests (slot_of layout s).class (first_slot layout number) (first_slot layout (number + 1)) there back
    where
      tests : (c a b : ℕ) → (c ≡ class → (a ≤ s) × (s < b)) → (a ≤ s → s < b → c ≡ class) →
          cond {A = ℕ} (eqb c class) 1 0 ≡ cond (leb a s && ltb s b) 1 0
      tests c a b to from = grind (arith, nat_tests, cases_eq, cases_lt)

      there : (slot_of layout s).class ≡ class → (first_slot layout number ≤ s) × (s < first_slot layout (number + 1))
      there its =
          let own = each_slot_has_a_class layout s lt in
          let class_is = ap (λ (slot : Slot). slot.class) (slot_by_its_class layout s own.0 own.1) in
          let same : own.0 ≡ number = one_number 1 layout.classes own.0 number legal own.1.within within (sym class_is ∙ its ∙ sym is) in
          (omega (arith, own.1.from, ap (first_slot layout) same), omega (arith, own.1.to, ap (λ n. first_slot layout (n + 1)) same))

      back : first_slot layout number ≤ s → s < first_slot layout (number + 1) → (slot_of layout s).class ≡ class
      back from to =
          ap (λ (slot : Slot). slot.class) (slot_by_its_class layout s number (record { within = within; from = from; to = to })) ∙ is

  pub slots_of_its_share : Contains layout.classes class → slots_in layout class ≡ share_of layout / class
  slots_of_its_share there =
      let number = there.0 in
      let is : get_or layout.classes number 0 ≡ class = get_or_default layout.classes number 0 class there.1 ∙ there.2 in
      omega (
        arith,
        sum_same (λ s. cond (eqb (slot_of layout s).class class) 1 0)
            (λ s. cond (leb (first_slot layout number) s && ltb s (first_slot layout (number + 1))) 1 0) (slot_count layout)
            (λ s lt. in-range number s there.1 is lt),
        first_slot-suc layout number there.1,
        ap (λ c. share_of layout / c) is,
        between (first_slot layout number) (first_slot layout (number + 1)) (slot_count layout)
            (omega (arith, first_slot-suc layout number there.1)),
        first_slot-most layout number,
        first_slot-most layout (number + 1),
      )

-- ---- a request

all-taken : (layout : Partition) (states : List State) (class : ℕ) →
    ((r : ℕ) → r < slot_count layout → (slot_of layout r).class ≡ class → is_fresh (get_or states r Fresh) ≡ false) →
    slots_in layout class ≤ sum_by_states layout states (taken_in class)
all-taken layout states class none =
    sum_at_most _ _ (slot_count layout) (λ s lt. at (slot_of layout s) (get_or states s Fresh) (none s lt))
  where
    at : (slot : Slot) (x : State) → (slot.class ≡ class → is_fresh x ≡ false) → cond (eqb slot.class class) 1 0 ≤ taken_in class slot x
    at slot x not = grind (arith, nat_tests)

module _ (h : Heap) (past : List SizeEvent) (at : IsAt h past) (class : ℕ) (one : 1 ≤ class) where
  held : sum_by_states h.layout h.states (freed_in class (h.total - h.quarantine)) ≤ h.quarantine / (16 * class)
  held =
      le-div _ h.quarantine (16 * class) (omega (arith, one)) (omega (
        arith,
        at.within.window class (h.total - h.quarantine),
        freed-bytes h.layout h.states class (h.total - h.quarantine),
      ))

  slot-left : blocks h.layout.classes class (last_snapshot past) + h.quarantine / (16 * class) < slots_in h.layout class →
      slot_for h class ≡ None → ⊥
  slot-left room none =
      omega (
        arith,
        room,
        held,
        blocks_are h.layout h.states past at.counts class,
        all-taken h.layout h.states class (λ r lt its. (none_left h class r lt its none).1),
        taken-below h.layout h.states h.quarantine h.total class
            (λ r lt its. released-same h (state_at h r) ∙ (none_left h class r lt its none).0),
      )

class-listed : (classes : List ℕ) (n class : ℕ) → class_for classes n ≡ Some class → Contains classes class
class-listed [] n class is = absurd cc
class-listed (c ∷ cs) n class is = grind (arith, cases_Bool, Contains-head, Contains-tail, class-listed cs n class)

-- after some events a request gets a slot
pub gets_a_slot : (layout : Partition) (limit : ℕ) (h : Heap) (past : List SizeEvent) → IsPartition layout → IsAfter layout limit h past →
    (n class : ℕ) → n ≤ largest_counted → class_for layout.classes n ≡ Some class → ((listed : Contains layout.classes class) →
    blocks layout.classes class (last_snapshot past) + limit / (16 * class) < share_of layout / class) →
    (s : ℕ) × (slot_for_request h n ≡ Ok s)
gets_a_slot layout limit h past is after n class small its room =
    let listed = class-listed layout.classes n class its in
    let is_size = All-contains IsBlockSize layout.classes class is.table.in_range listed in
    request_served h n class small (ap (λ (p : Partition). class_for p.classes n) after.layout_is ∙ its)
    (slot-left h past after.at class (omega (arith, is_size.0)) (omega (
      arith,
      room listed,
      slots_of_its_share layout class is.table listed,
      ap (λ (p : Partition). slots_in p class) after.layout_is,
      ap (λ (p : Partition). blocks p.classes class (last_snapshot past)) after.layout_is,
      ap (λ v. v / (16 * class)) after.limit_is,
    )))

pub run_gets_a_slot : (layout : Partition) (seed limit : ℕ) (calls : List Call) (events : List SizeEvent) →
    IsRun layout seed limit calls events → (n class : ℕ) → n ≤ largest_counted → class_for layout.classes n ≡ Some class →
    blocks layout.classes class (snapshot_at events (length events)) + limit / (16 * class) < share_of layout / class →
    IsOk (slot_for_request (heap_of layout seed limit calls) n)
run_gets_a_slot layout seed limit calls events run n class small its room =
    let got = gets_a_slot layout limit (heap_of layout seed limit calls) (counted_events events) run.partition
    (last layout seed limit calls events run) n class small its
    (λ listed. omega (arith, room, ap (blocks layout.classes class) (last-counted events))) in
    subst (λ r. IsOk r) (sym got.1) refl

-- ---- granules

at-most-greatest : (f : ℕ → ℕ) (classes : List ℕ) (class : ℕ) → Contains classes class → f class ≤ greatest_of f classes
at-most-greatest f [] class there = absurd (Contains-none class there)
at-most-greatest f (c ∷ cs) class there = grind (arith, Contains-cases, at-most-greatest f cs class)

pub granules_suffice : (layout : Partition) (limit : ℕ) (events : List SizeEvent) → IsPartition layout →
    granules_needed layout.classes limit events ≤ layout.granules → HasRoom layout limit events
granules_suffice layout limit events is enough =
    All-weaker (Contains layout.classes) _ (λ class listed.
    fits (slots_needed layout.classes limit events class) class
    (omega (arith, (All-contains IsBlockSize layout.classes class is.table.in_range listed).0))
    (at-most-greatest (λ c. c * slots_needed layout.classes limit events c) layout.classes class listed) listed) layout.classes
    (All-contains_itself layout.classes)
  where
    fits : (slots class : ℕ) → 1 ≤ class →
        class * slots ≤ greatest_of (λ c. c * slots_needed layout.classes limit events c) layout.classes → Contains layout.classes class →
        slots ≤ share_of layout / class
    fits slots class one le listed =
        le-div slots (share_of layout) class one (omega (
          arith,
          le,
          le-div (greatest_of (λ c. c * slots_needed layout.classes limit events c) layout.classes) layout.granules (length layout.classes)
              (omega (arith, listed.1)) (omega (arith, enough)),
        ))

-- Sums over the slots of a heap of which one slot changes, and what is counted of a slot.
use Rattle.std.proofs.Common.{◌≡◌, ℕ, zero, suc, ◌+◌, ◌-◌, ◌*◌, ◌<◌, ◌&&◌, Bool, true, false, cond, eqb, leb, ltb, List, length, get_or}
use Rattle.std.proofs.Common.{slice_set, arith, ap}
use Rattle.std.proofs.lemmas.{Bool.{cases_eq}, List.{get_or-set_same, get_or-set_other}}
use Rattle.class_table.specs.Layout.{Partition, Slot, slot_count, slot_of}
use Rattle.heap_theory.specs.{State.{State, is_fresh, is_dead, mark_of}, State.State.{Fresh, Live, Dead}}
use Rattle.tuner_theory.{proofs.Sums.{sum_below-more, sum_same}, specs.Waste.{sum_below}}

one_changes : (f g : ℕ → ℕ) (s m : ℕ) → s < m → ((r : ℕ) → (r ≡ s → ⊥) → g r ≡ f r) →
    sum_below g m + f s ≡ sum_below f m + g s
one_changes f g s zero lt same = absurd (omega arith)
one_changes f g s (suc m) lt same = grind (arith, cases_eq m s, sum_below-more, sum_same, same, one_changes f g s m)

-- the sum over slots by their states
abbrev pub sum_by_states : Partition → List State → (Slot → State → ℕ) → ℕ
sum_by_states layout states weight = sum_below (λ s. weight (slot_of layout s) (get_or states s Fresh)) (slot_count layout)

pub sum_changes : (layout : Partition) (states : List State) (s : ℕ) → length states ≡ slot_count layout → s < slot_count layout →
    (state : State) (weight : Slot → State → ℕ) →
    sum_by_states layout (slice_set states s state) weight + weight (slot_of layout s) (get_or states s Fresh)
    ≡ sum_by_states layout states weight + weight (slot_of layout s) state
sum_changes layout states s long within state weight =
    omega (
      arith,
      one_changes (λ r. weight (slot_of layout r) (get_or states r Fresh))
          (λ r. weight (slot_of layout r) (get_or (slice_set states s state) r Fresh)) s (slot_count layout) within
          (λ r not. ap (weight (slot_of layout r)) (get_or-set_other states s r state Fresh not)),
      ap (weight (slot_of layout s)) (get_or-set_same states s state Fresh (omega arith)),
    )

-- ---- what is counted of a slot

abbrev pub is_live : State → Bool
is_live Fresh = false
is_live (Live size tag) = true
is_live (Dead size tag mark) = false

-- of this class: one that was ever given out,
abbrev pub taken_in : ℕ → Slot → State → ℕ
taken_in class slot state = cond (eqb slot.class class) (cond (is_fresh state) 0 1) 0

-- and one that has a live block
abbrev pub live_in : ℕ → Slot → State → ℕ
live_in class slot state = cond (eqb slot.class class && is_live state) 1 0

-- one that has a live block of n bytes
abbrev pub sized_in : ℕ → Slot → State → ℕ
sized_in n slot Fresh = 0
sized_in n slot (Live size tag) = cond (eqb size n) 1 0
sized_in n slot (Dead size tag mark) = 0

-- dead, and freed from this mark on
abbrev pub freed_from : ℕ → State → Bool
freed_from x Fresh = false
freed_from x (Live size tag) = false
freed_from x (Dead size tag mark) = leb x mark

-- the slots of a class that were freed from this mark on, and their bytes
abbrev pub freed_in : ℕ → ℕ → Slot → State → ℕ
freed_in class x slot state = cond (eqb slot.class class && freed_from x state) 1 0

abbrev pub freed_bytes_in : ℕ → ℕ → Slot → State → ℕ
freed_bytes_in class x slot state = cond (eqb slot.class class && freed_from x state) (16 * slot.class) 0

-- dead, and the quarantine of this limit does not hold it
abbrev pub released_by : ℕ → ℕ → State → Bool
released_by limit total state = is_dead state && ltb limit (total - mark_of state)

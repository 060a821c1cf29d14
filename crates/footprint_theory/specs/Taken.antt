-- What a heap takes of its region: the slots that it ever gave out, by their class and in bytes.
use Rattle.std.specs.Prelude.{ℕ, ◌==◌, if◌then◌else◌}
use Rattle.class_table.specs.Layout.{Slot, block_bytes, slot_count}
use Rattle.heap_theory.specs.State.{State, Heap, slot_in, state_at, is_fresh}
use Rattle.tuner_theory.specs.Waste.{sum_below}

-- the sum of a weight over the slots of a heap
abbrev pub sum_over_slots : Heap → (Slot → State → ℕ) → ℕ
sum_over_slots heap weight = sum_below (λ s. weight (slot_in heap s) (state_at heap s)) (slot_count heap.layout)

-- The slots of a class that were ever given out.
abbrev pub taken_slots : Heap → ℕ → ℕ
taken_slots heap class =
    sum_over_slots heap (λ slot state. if slot.class == class then (if is_fresh state then 0 else 1) else 0)

-- The bytes of all slots that were ever given out, their headers among them: what the heap takes of its region.
abbrev pub taken_bytes : Heap → ℕ
taken_bytes heap = sum_over_slots heap (λ slot state. if is_fresh state then 0 else block_bytes slot)

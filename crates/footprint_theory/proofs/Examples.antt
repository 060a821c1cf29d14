-- Worked examples: what heaps take over short traces, over 64 granules with classes of 32 and 48 bytes and seed 1.
use Rattle.std.proofs.Common.{◌≡◌, ℕ, List, [], ◌∷◌, refl}
use Rattle.footprint_theory.specs.{Taken.{taken_bytes, taken_slots}}
use Rattle.heap_theory.specs.{State.{Heap}}
use Rattle.replay_theory.proofs.ExampleAnswers.{heap_of}
use Rattle.trace_event.specs.declared.event.{Event.{Event}, Event.TheVariants.{Malloc, Realloc, Free}}
use Rattle.tuner_theory.specs.Waste.{sum_below}

abbrev taken_by : Heap → ℕ × ℕ × ℕ
taken_by heap = (taken_slots heap 2, taken_slots heap 3, taken_bytes heap)

-- the slots of both classes, and the bytes of all
unfoldable taken : ℕ → List Event → ℕ × ℕ × ℕ
unfolding heap_of sum_below
taken limit trace = taken_by (heap_of (2 ∷ 3 ∷ []) limit trace)

-- two blocks of the first class are live at most
freed_slots_are_used_again : taken 0 (Malloc 1 16 ∷ Malloc 2 5 ∷ Free 1 ∷ Malloc 3 16 ∷ Free 2 ∷ Free 3 ∷ Malloc 4 1 ∷ []) ≡ (2, 0, 64)
unfolding taken
freed_slots_are_used_again = refl

-- a realloc in place has one block at each moment
realloc_in_place_takes_one : taken 0 (Malloc 1 16 ∷ Realloc 1 10 ∷ []) ≡ (1, 0, 32)
unfolding taken
realloc_in_place_takes_one = refl

realloc_that_moves_takes_both : taken 0 (Malloc 1 16 ∷ Realloc 1 20 ∷ Realloc 1 8 ∷ []) ≡ (1, 1, 80)
unfolding taken
realloc_that_moves_takes_both = refl

-- a request above the largest size that is counted is refused, in a realloc too, and counts for nothing
large_requests_count_for_nothing : taken 0 (Malloc 1 16369 ∷ Malloc 2 32 ∷ Free 1 ∷ Realloc 2 20000 ∷ []) ≡ (0, 1, 48)
unfolding taken
large_requests_count_for_nothing = refl

-- one block of each class is live at most, so the footprint is 80 bytes. A quarantine of 96 bytes adds 96 in each class, at its own moment.
quarantine_counts_for_each_class :
    taken 96
    (Malloc 1 16 ∷ Free 1 ∷ Malloc 1 16 ∷ Free 1 ∷ Malloc 1 16 ∷ Free 1 ∷ Malloc 1 16 ∷ Free 1 ∷ Malloc 1 32 ∷ Free 1 ∷ Malloc 1 32 ∷ Free 1
    ∷ Malloc 1 32 ∷ [])
    ≡ (4, 3, 272)
unfolding taken
quarantine_counts_for_each_class = refl

same_without_a_quarantine :
    taken 0
    (Malloc 1 16 ∷ Free 1 ∷ Malloc 1 16 ∷ Free 1 ∷ Malloc 1 16 ∷ Free 1 ∷ Malloc 1 16 ∷ Free 1 ∷ Malloc 1 32 ∷ Free 1 ∷ Malloc 1 32 ∷ Free 1
    ∷ Malloc 1 32 ∷ [])
    ≡ (1, 1, 80)
unfolding taken
same_without_a_quarantine = refl

-- Worked examples: faulty classes, what is counted, footprints, and the moments of timelines, each at a border and beyond it.
use Rattle.std.proofs.Common.{◌≡◌, ℕ, ◌≤◌, true, false, List, [], ◌∷◌, ◌++◌, length, map, replicate, slice_index, Some, None, refl, arith}
use Rattle.class_table.specs.Faults.{fault_from}
use Rattle.class_table.specs.declared.fault.TableError.TheVariants.{NotAscending, OutOfRange}
use Rattle.tuner_theory.specs.{Footprint.{footprint_of}, Profiles.{greatest_count}, Served.{served}, Timelines.{moments, snapshot_at}, Waste.{sum_below}}
use Rattle.tuner_theory.specs.Sheets.{code_of}
use Rattle.tuner_theory.specs.declared.size_event.SizeEvent.TheVariants.{Free, Request}
use Rattle.tuner_theory.specs.declared.verdict.Refusal.TheVariants.{OffStep, OverLimit, NotServing, WasteWrong, Shape, LastClass, StageDrop}
use Rattle.tuner_theory.specs.declared.verdict.Refusal.TheVariants.{Edge, NotTight}

-- ---- faulty classes

-- 2 to 1024 granules
range_of_a_class : (fault_from 0 (2 ∷ 1024 ∷ []) ≡ None) × (fault_from 0 (1 ∷ []) ≡ Some OutOfRange)
    × (fault_from 0 (2 ∷ 1025 ∷ []) ≡ Some OutOfRange)
unfolding fault_from
range_of_a_class = (refl, refl, refl)

equal_classes_do_not_ascend : (fault_from 0 (3 ∷ 4 ∷ []) ≡ None) × (fault_from 0 (3 ∷ 3 ∷ []) ≡ Some NotAscending)
unfolding fault_from
equal_classes_do_not_ascend = (refl, refl)

-- of one class the range comes first, of two the first class
first_fault_of_a_table : (fault_from 0 (3 ∷ 1 ∷ []) ≡ Some OutOfRange) × (fault_from 0 (4 ∷ 3 ∷ 1 ∷ []) ≡ Some NotAscending)
unfolding fault_from
first_fault_of_a_table = (refl, refl)

-- ---- what is counted

greatest_count_is_in_range : (1000000000 ≤ greatest_count) × (1000000001 ≤ greatest_count → ⊥)
greatest_count_is_in_range = (omega arith, λ within. omega arith)

-- where the largest class is forced, 16,368 bytes are counted once, if no request asked for them
served_largest_size : (slice_index (served true (replicate 16369 0)) 16368 ≡ 1) × (slice_index (served true (replicate 16369 0)) 16367 ≡ 0)
    × (slice_index (served true (replicate 16368 0 ++ 5 ∷ [])) 16368 ≡ 5) × (slice_index (served false (replicate 16369 0)) 16368 ≡ 0)
served_largest_size = (refl, refl, refl, refl)

-- ---- footprints

-- two blocks of 16 bytes and one of 40; one of 16 bytes and three of 40
abbrev two_snapshots : List (List ℕ)
two_snapshots =
    (replicate 16 0 ++ 2 ∷ (replicate 23 0 ++ 1 ∷ [])) ∷ (replicate 16 0 ++ 1 ∷ (replicate 23 0 ++ 3 ∷ [])) ∷ []

-- 2 * 32 and 3 * 64 bytes, of two snapshots, with their headers; at one snapshot both classes have 224 at most
each_class_at_its_own_snapshot : (footprint_of two_snapshots (2 ∷ 4 ∷ []) ≡ 256) × (footprint_of (two_snapshots) (4 ∷ []) ≡ 256)
    × (footprint_of two_snapshots (2 ∷ 3 ∷ 4 ∷ []) ≡ 256) × (footprint_of two_snapshots (2 ∷ []) ≡ 64)
unfolding sum_below
each_class_at_its_own_snapshot = (refl, refl, refl, refl)

-- ---- verdicts

-- the order in which the conditions are looked at
codes_of_refusals :
    map code_of (OffStep ∷ OverLimit ∷ NotServing ∷ WasteWrong ∷ Shape ∷ LastClass ∷ StageDrop ∷ Edge ∷ NotTight ∷ [])
    ≡ 39 ∷ 40 ∷ 41 ∷ 42 ∷ 43 ∷ 44 ∷ 45 ∷ 46 ∷ 47 ∷ []
codes_of_refusals = refl

-- ---- timelines

-- the blocks of 16 bytes before all events, and after each
moments_of_three_events : map (λ snapshot. slice_index snapshot 16) (moments (Request 16 ∷ Request 16 ∷ Free 16 ∷ [])) ≡ 0 ∷ 1 ∷ 2 ∷ 1 ∷ []
unfolding moments snapshot_at
moments_of_three_events = refl

moments_of_no_event : length (moments []) ≡ 1
unfolding moments
moments_of_no_event = refl

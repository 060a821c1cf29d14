-- Worked examples: the blocks and bytes of a timeline at its moments, and the first moment of the most.
use Rattle.std.proofs.Common.{◌≡◌, ℕ, zero, suc, ◌<◌, List, [], ◌∷◌, slice_index, refl, arith, ne_eqb}
use Rattle.history_count.specs.Timelines.{LiveBlocks.{IsFirst}, Requests.{IsFirstLive, IsLargest}, TablePeaks.{freed_blocks, live_bytes, made_blocks}}
use Rattle.tuner_theory.specs.{Footprint.{blocks}, Timelines.{requested, snapshot_at}, Waste.{sum_below}}
use Rattle.tuner_theory.specs.declared.size_event.{SizeEvent.{SizeEvent}, SizeEvent.TheVariants.{Free, Request}}

-- one block of 16 bytes, a second one, one freed, and a second one again
abbrev two_twice : List SizeEvent
two_twice = Request 16 ∷ Request 16 ∷ Free 16 ∷ Request 16 ∷ []

-- a block of 16 bytes, freed before one of 40
abbrev pub one_after_the_other : List SizeEvent
one_after_the_other = Request 16 ∷ Free 16 ∷ Request 40 ∷ []

-- ---- blocks and bytes at a moment

-- with their headers: 2 * 32 bytes, 64 of the larger class, and none
live_bytes_have_headers :
    (live_bytes (2 ∷ 4 ∷ []) (snapshot_at two_twice 2) ≡ 64) × (live_bytes (2 ∷ 4 ∷ []) (snapshot_at one_after_the_other 3) ≡ 64)
    × (live_bytes (2 ∷ 4 ∷ []) (snapshot_at one_after_the_other 2) ≡ 0)
unfolding snapshot_at sum_below
live_bytes_have_headers = (refl, refl, refl)

-- of two classes each has a block of its own; of one class the freed block is given out again
freed_blocks_stay_in_their_class :
    (made_blocks one_after_the_other (2 ∷ 4 ∷ []) 3 ≡ 2) × (freed_blocks one_after_the_other (2 ∷ 4 ∷ []) 3 ≡ 1)
    × (made_blocks one_after_the_other (4 ∷ []) 3 ≡ 1) × (freed_blocks one_after_the_other (4 ∷ []) 3 ≡ 0)
unfolding snapshot_at sum_below
freed_blocks_stay_in_their_class = (refl, refl, refl, refl)

-- ---- the first of the most

blocks_of_two_twice : (blocks (2 ∷ []) 2 (snapshot_at two_twice 0) ≡ 0) × (blocks (2 ∷ []) 2 (snapshot_at two_twice 1) ≡ 1)
    × (blocks (2 ∷ []) 2 (snapshot_at two_twice 2) ≡ 2) × (blocks (2 ∷ []) 2 (snapshot_at two_twice 4) ≡ 2)
unfolding snapshot_at sum_below
blocks_of_two_twice = (refl, refl, refl, refl)

below_two_before : (earlier : ℕ) → earlier < 2 → blocks (2 ∷ []) 2 (snapshot_at two_twice earlier) < 2
below_two_before zero below = omega (arith, blocks_of_two_twice.0)
below_two_before (suc zero) below = omega (arith, blocks_of_two_twice.1)
below_two_before (suc (suc earlier)) below = omega (arith, below)

-- two blocks are live after two events, and again after four
two_blocks_are_first_live_at_2 : IsFirst (blocks (2 ∷ []) 2) two_twice 4 2 2
two_blocks_are_first_live_at_2 =
    record { within = omega arith; there = blocks_of_two_twice.2; before = below_two_before }

last_of_the_most_is_not_the_first : IsFirst (blocks (2 ∷ []) 2) two_twice 4 2 4 → ⊥
last_of_the_most_is_not_the_first first = let earlier = first.before 2 (omega arith) in omega (arith, earlier, blocks_of_two_twice.2)

-- ---- the largest size and its first moment

-- the larger block comes second, is freed, and comes again
abbrev pub larger_comes_second : List SizeEvent
larger_comes_second = Request 16 ∷ Request 40 ∷ Free 40 ∷ Request 40 ∷ []

none_above_40 : (n : ℕ) → 40 < n → requested larger_comes_second n ≡ 0
none_above_40 n above = grind (arith, ne_eqb 16 n (λ same. omega arith), ne_eqb 40 n (λ same. omega arith))

pub largest_is_40 : IsLargest larger_comes_second 40
largest_is_40 = record {
  counted = omega arith;
  some = omega arith;
  greatest = λ n counted some. grind (arith, none_above_40 n);
}

pub blocks_of_40 : (slice_index (snapshot_at larger_comes_second 0) 40 ≡ 0) × (slice_index (snapshot_at larger_comes_second 1) 40 ≡ 0)
    × (slice_index (snapshot_at larger_comes_second 2) 40 ≡ 1)
unfolding snapshot_at
blocks_of_40 = (refl, refl, refl)

none_before_2 : (earlier : ℕ) → earlier < 2 → slice_index (snapshot_at larger_comes_second earlier) 40 ≡ 0
none_before_2 zero below = blocks_of_40.0
none_before_2 (suc zero) below = blocks_of_40.1
none_before_2 (suc (suc earlier)) below = omega (arith, below)

pub block_of_40_is_first_live_at_2 : IsFirstLive larger_comes_second 40 2
block_of_40_is_first_live_at_2 = record { live = omega (arith, blocks_of_40.2); before = none_before_2 }

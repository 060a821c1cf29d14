-- The peaks of snapshots, by the counts of each size.
use Rattle.std.proofs.Common.{◌≡◌, ℕ, zero, suc, ◌+◌, ◌≤◌, false, List, [], ◌∷◌, length, get_or, set, refl, ◌∙◌, arith, All, slice_index}
use Rattle.std.proofs.lemmas.{Bool.{cases_eq}, Grind.{same_number_lists}}
use Rattle.std.proofs.lemmas.List.{get_or-set_other, get_or-set_same, length-replicate, length-set}
use Rattle.std.proofs.lemmas.List.Elements.{All-from_get_or, All-head, All-nil, All-tail}
use Rattle.class_table.specs.Sizes.{largest_counted}
use Rattle.profile_count.{proofs.LawLemmas.{each_is_zero, zeros_are_counts}, specs.Counts.{zeros}}
use Rattle.tuner_theory.{proofs.Footprint.{peak-at, peaks-length}, proofs.Spans.{count-small}, specs.Histories.{AreSnapshots, most, peaks}}
use Rattle.tuner_theory.specs.{Profiles.{AreCounts, greatest_count}, declared.most_snapshots.TheConstants.{MOST_SNAPSHOTS}}
use Rattle.history_count.{proofs.Columns.{counts_of-other, counts_of-same}, specs.HistoryText.{is_some_counted}}
use Rattle.history_count.specs.Histories.{counts_of, empty_snapshots, greatest_of, with_counts}

most-greatest : (snapshots : List (List ℕ)) (n : ℕ) → most (λ s. slice_index s n) snapshots ≡ greatest_of (counts_of snapshots n)
most-greatest [] n = refl
most-greatest (s ∷ ss) n = omega (arith, most-greatest ss n)

peak-is : (snapshots : List (List ℕ)) (n : ℕ) → n ≤ largest_counted → get_or (peaks snapshots) n 0 ≡ greatest_of (counts_of snapshots n)
peak-is snapshots n small = peak-at snapshots n 0 small ∙ most-greatest snapshots n

-- Where the counts of a size are set, its peak is the greatest of them.
pub peaks-set : (snapshots : List (List ℕ)) (n : ℕ) (counts : List ℕ) → All AreCounts snapshots → n ≤ largest_counted
    → length counts ≡ length snapshots → peaks (with_counts snapshots n counts) ≡ set (peaks snapshots) n (greatest_of counts)
peaks-set snapshots n counts are small size = grind (arith, same_number_lists, set, peaks-length, length-set, peak-is, cases_eq, counts_of-same, get_or-set_same, counts_of-other, get_or-set_other)

-- the greatest of counts in range is in range
pub greatest-small : (counts : List ℕ) → All (λ count. count ≤ greatest_count) counts → greatest_of counts ≤ greatest_count
greatest-small [] small = omega arith
greatest-small (c ∷ cs) small = omega (arith, small 0 c (omega arith), greatest-small cs (λ k d lt. small (suc k) d (omega arith)))

-- ---- nothing counted

pub zeros-small : (n : ℕ) → All (λ count. count ≤ greatest_count) (zeros n)
zeros-small n = All-from_get_or (λ count. count ≤ greatest_count) (zeros n) 0 (λ k within. rw (each_is_zero n k) (omega arith))

-- Nothing is counted in any snapshot,
pub empty-counts : (count : ℕ) → All AreCounts (empty_snapshots count)
unfolding empty_snapshots
empty-counts zero = All-nil AreCounts
empty-counts (suc n) = grind (arith, zeros_are_counts, empty-counts n)

pub empty-length : (count : ℕ) → length (empty_snapshots count) ≡ count
unfolding empty_snapshots
empty-length count = length-replicate count (zeros (largest_counted + 1))

greatest-empty : (count n : ℕ) → greatest_of (counts_of (empty_snapshots count) n) ≡ 0
unfolding empty_snapshots
greatest-empty zero n = refl
greatest-empty (suc m) n = omega (arith, each_is_zero (largest_counted + 1) n, greatest-empty m n)

-- no size is counted,
pub empty-nothing : (count n : ℕ) → is_some_counted (counts_of (empty_snapshots count) n) ≡ false
unfolding empty_snapshots
empty-nothing zero n = refl
empty-nothing (suc m) n = rw each_is_zero (empty-nothing m n)

-- and all peaks are 0.
pub peaks-empty : (count : ℕ) → peaks (empty_snapshots count) ≡ zeros (largest_counted + 1)
peaks-empty count = grind (arith, same_number_lists, peaks-length, zeros_are_counts, peak-is, greatest-empty, each_is_zero)

-- ---- the counts of one size

pub counts-small : (snapshots : List (List ℕ)) (n : ℕ) → All AreCounts snapshots
    → All (λ count. count ≤ greatest_count) (counts_of snapshots n)
counts-small [] n are = All-nil (λ count. count ≤ greatest_count)
counts-small (s ∷ ss) n are = grind (arith, counts-small ss n (All-tail AreCounts s ss are), count-small, All-head)

-- They are snapshots.
pub empty-are : (count : ℕ) → 1 ≤ count → count ≤ MOST_SNAPSHOTS → AreSnapshots (empty_snapshots count)
empty-are count some few = grind (arith, empty-length, empty-counts)

-- Sums of a snapshot up to a size, by the lines of its sizes.
use Rattle.std.proofs.Common.{◌≡◌, ℕ, zero, suc, ◌+◌, ◌-◌, ◌*◌, ◌<◌, ◌≤◌, List, [], ◌∷◌, length, refl, sym, ◌∙◌, arith, All, slice_index}
use Rattle.std.proofs.{Common.{◌⊎◌, inl, inr}, lemmas.Bool.{cases_lt}, lemmas.List.Elements.{All-head, All-tail}}
use Rattle.class_table.specs.Sizes.{largest_counted}
use Rattle.profile_count.specs.Counts.{zeros}
use Rattle.tuner_theory.{proofs.Spans.{count-small}, proofs.Sums.{sum_below-more, sum_below-none}, specs.Histories.{most}}
use Rattle.tuner_theory.specs.{Profiles.{AreCounts, greatest_count}, Waste.{sum_below}}
use Rattle.history_count.{proofs.SpreadLines.{with_sizes-counts}, specs.CountedLines.{AreSizes, CountsSizes, IsCutAt, spread, with_sizes}}
use Rattle.history_count.specs.Histories.{blocks_from}

module _ (snapshot sizes column : List ℕ) (are : AreSizes sizes) (counts : CountsSizes snapshot sizes column) where
  abbrev IsSummed : ℕ → ℕ → Type 0
  IsSummed line end = sum_below (slice_index snapshot) end ≡ sum_below (slice_index column) line

  -- the size before the end is none of a line,
  miss : (line end : ℕ) → IsCutAt sizes line (suc end) → ((k : ℕ) → k < line → slice_index sizes k < end)
      → (IsCutAt sizes line end → IsSummed line end) → IsSummed line (suc end)
  miss line end cut less before = grind (arith, sum_below-more)

  -- or that of the last one.
  hit : (line end : ℕ) → IsCutAt sizes (suc line) (suc end) → slice_index sizes line ≡ end
      → (IsCutAt sizes line end → IsSummed line end) → IsSummed (suc line) (suc end)
  hit line end cut is before = grind (arith, sum_below-more)

  more : (end line : ℕ) → ((line : ℕ) → IsCutAt sizes line end → IsSummed line end) → IsCutAt sizes line (suc end) → IsSummed line (suc end)
  more end zero before cut = miss 0 end cut (λ k lt. absurd (omega arith)) (before 0)
  more end (suc line) before cut = by_size (cases_lt (slice_index sizes line) end)
    where
      up_to : (k : ℕ) → k < suc line → ((k < line) ⊎ (line ≤ k)) → slice_index sizes line < end → slice_index sizes k < end
      up_to k lt (inl below) less = omega (arith, are.ascending k line below (omega (arith, cut.within)), less)
      up_to k lt (inr past) less = let same : k ≡ line = omega arith in rw same less

      by_size : ((slice_index sizes line < end) ⊎ (end ≤ slice_index sizes line)) → IsSummed (suc line) (suc end)
      by_size (inl less) = miss (suc line) end cut (λ k lt. up_to k lt (cases_lt k line) less) (before (suc line))
      by_size (inr past) = hit line end cut (omega (arith, past, cut.below line (omega arith))) (before line)

  pub sum-lines : (end line : ℕ) → IsCutAt sizes line end → IsSummed line end
  sum-lines zero zero cut = sum_below-none (slice_index snapshot) ∙ sym (sum_below-none (slice_index column))
  sum-lines zero (suc line) cut = let below = cut.below 0 (omega arith) in absurd (omega (arith, below))
  sum-lines (suc end) line cut = more end line (sum-lines end) cut

-- The most blocks of some lines are those of the sizes between two cuts.
pub most-lines : (sizes : List ℕ) (columns : List (List ℕ)) (start stop from end : ℕ) → AreSizes sizes
    → All (λ column. length column ≡ length sizes) columns → IsCutAt sizes start from → IsCutAt sizes stop end
    → most (blocks_from start stop) columns ≡ most (blocks_from from end) (spread sizes columns)
most-lines sizes [] start stop from end are long first last = refl
most-lines sizes (column ∷ columns) start stop from end are long first last =
    let counts = with_sizes-counts sizes column are (All-head (λ (column : List ℕ). length column ≡ length sizes) column columns long) in
    let snapshot = with_sizes (zeros (largest_counted + 1)) sizes column in
    omega (
      arith,
      sum-lines snapshot sizes column are counts from start first,
      sum-lines snapshot sizes column are counts end stop last,
      most-lines sizes columns start stop from end are (All-tail (λ (column : List ℕ). length column ≡ length sizes) column columns long)
          first
          last,
    )

-- ---- bounds

between-small : (f : ℕ → ℕ) (bound from end : ℕ) → from ≤ end → ((n : ℕ) → f n ≤ bound)
    → sum_below f end ≤ sum_below f from + bound * (end - from)
between-small f bound from zero le few = let none : from ≡ 0 = omega arith in rw none (omega arith)
between-small f bound from (suc end) le few = go (cases_lt end from) (between-small f bound from end)
  where
    go : ((end < from) ⊎ (from ≤ end)) → (from ≤ end → ((n : ℕ) → f n ≤ bound) → sum_below f end ≤ sum_below f from + bound * (end - from))
        → sum_below f (suc end) ≤ sum_below f from + bound * (suc end - from)
    go (inl past) before = let same : from ≡ suc end = omega arith in rw same (omega arith)
    go (inr within) before =
        let step : suc end - from ≡ suc (end - from) = omega arith in
        rw step (omega (arith, sum_below-more f end, before within few, few end))

-- the most blocks of the sizes between two
pub most-small : (snapshots : List (List ℕ)) (from end : ℕ) → All AreCounts snapshots → from ≤ end
    → most (blocks_from from end) snapshots ≤ greatest_count * (end - from)
most-small [] from end are le = omega arith
most-small (s ∷ ss) from end are le =
    omega (
      arith,
      between-small (slice_index s) greatest_count from end le (λ n. count-small s n (All-head AreCounts s ss are)),
      most-small ss from end (All-tail AreCounts s ss are) le,
    )

-- No more lines than sizes.
pub lines-within : (sizes : List ℕ) → AreSizes sizes → (k : ℕ) → k < length sizes → k ≤ slice_index sizes k
lines-within sizes are zero lt = omega arith
lines-within sizes are (suc k) lt = omega (arith, lines-within sizes are k (omega arith), are.ascending k (suc k) (omega arith) lt)

pub few-lines : (sizes : List ℕ) → AreSizes sizes → length sizes ≤ largest_counted + 1
few-lines sizes are = grind (arith, lines-within)

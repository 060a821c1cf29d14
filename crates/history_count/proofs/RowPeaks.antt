-- The peaks of a history by the rows of its counts, line by line.
use Rattle.std.proofs.Common.{◌≡◌, ◌≢◌, ℕ, suc, ◌+◌, ◌<◌, List, [], ◌∷◌, length, slice_index, refl, sym, ◌∙◌, arith}
use Rattle.std.proofs.{Common.{All}, lemmas.Grind.{same_number_lists}}
use Rattle.class_table.specs.Sizes.{largest_counted}
use Rattle.profile_count.{proofs.LawLemmas.{each_is_zero, length-zeros}, specs.Counts.{nothing_counted, zeros}}
use Rattle.tuner_theory.{proofs.Footprint.{peak-at, peaks-length}, proofs.Sums.{sum_below-more}, specs.Profiles.{Profile}}
use Rattle.tuner_theory.specs.Histories.{AreSnapshots, most, peaks}
use Rattle.history_count.proofs.{CutLines.{most-lines}, SpreadLines.{with_sizes-counts, with_sizes-length}}
use Rattle.history_count.specs.CountedLines.{AreFew, AreSizes, CountsSizes, HoldsLines, spread, with_sizes}
use Rattle.history_count.specs.Histories.{blocks_from, peak_profile}

-- Of the lines up to this one the profile has the peaks, and nothing else.
pub record ArePeaksTo (sizes : List ℕ) (rows : List (List ℕ)) (line : ℕ) (kept : Profile) : Type 0 where
  pub len : length kept.counts ≡ largest_counted + 1
  pub large : kept.large ≡ 0
  pub done : (j : ℕ) → j < line → slice_index kept.counts (slice_index sizes j) ≡ most (blocks_from j (j + 1)) rows
  pub others : (n : ℕ) → ((j : ℕ) → j < line → slice_index sizes j ≢ n) → slice_index kept.counts n ≡ 0

pub peaks_to-none : (sizes : List ℕ) (rows : List (List ℕ)) → ArePeaksTo sizes rows 0 nothing_counted
peaks_to-none sizes rows = grind (arith, length-zeros, each_is_zero)

module _ (sizes : List ℕ) (rows : List (List ℕ)) (are : AreSizes sizes) (few : AreFew (length sizes) rows)
    (snapshots : AreSnapshots (spread sizes rows)) where
  one-size : (n : ℕ) (s : List ℕ) → blocks_from n (n + 1) s ≡ slice_index s n
  one-size n s =
      let next : n + 1 ≡ suc n = omega arith in
      rw next (omega (arith, sum_below-more (slice_index s) n))

  most-one : (n : ℕ) (ss : List (List ℕ)) → most (blocks_from n (n + 1)) ss ≡ most (λ s. slice_index s n) ss
  most-one n [] = refl
  most-one n (s ∷ ss) = omega (arith, one-size n s, most-one n ss)

  -- the peak of a line is that of its size
  peak-line : (line : ℕ) → line < length sizes
      → most (blocks_from line (line + 1)) rows ≡ slice_index (peaks (spread sizes rows)) (slice_index sizes line)
  peak-line line within =
      most-lines sizes rows line (line + 1) (slice_index sizes line) (slice_index sizes line + 1) are few.long (grind arith)
      (grind arith)
      ∙ most-one (slice_index sizes line) (spread sizes rows)
      ∙ sym (peak-at (spread sizes rows) (slice_index sizes line) 0 (are.small line within))

  -- a size that has no line is counted in no snapshot
  no-line : (n : ℕ) → ((j : ℕ) → j < length sizes → slice_index sizes j ≢ n) → (columns : List (List ℕ))
      → All (λ column. length column ≡ length sizes) columns → most (λ s. slice_index s n) (spread sizes columns) ≡ 0
  no-line n none [] long = refl
  no-line n none (column ∷ columns) long =
      omega (
        arith,
        (with_sizes-counts sizes column are (long 0 [] (omega arith))).others n none,
        no-line n none columns (λ k d lt. long (suc k) d (omega arith)),
      )

  module _ (kept : Profile) (all : ArePeaksTo sizes rows (length sizes) kept) where
    counts-are : kept.counts ≡ peaks (spread sizes rows)
    counts-are = grind (arith, same_number_lists, peaks-length, peak-line, peak-at, no-line)

    pub peaks-are : kept ≡ peak_profile (spread sizes rows)
    peaks-are = grind (arith, counts-are)

    pub rows-held : (count : ℕ) → length rows ≡ count → HoldsLines count sizes rows kept
    rows-held count width = grind (arith, peaks-are)

-- ---- the rows of snapshots

pub spread-column : (snapshot sizes column : List ℕ) → AreSizes sizes → length snapshot ≡ largest_counted + 1
    → CountsSizes snapshot sizes column → with_sizes (zeros (largest_counted + 1)) sizes column ≡ snapshot
spread-column snapshot sizes column are len counts =
    let spelled = with_sizes-counts sizes column are counts.size in
    grind (arith, same_number_lists, with_sizes-length, length-zeros)

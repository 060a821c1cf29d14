-- The snapshots that lines spell: which sizes they count, and what is left where a line more is read.
use Rattle.std.proofs.Common.{◌≡◌, ◌≢◌, ℕ, zero, suc, ◌+◌, ◌<◌, ◌≤◌, ◌++◌, List, [], ◌∷◌, length, length-append, set, refl}
use Rattle.std.proofs.{Common.{sym, ap, ◌∙◌, arith, All, slice_index, slice_index_or, replicate, ◌⊎◌, inl, inr}, lemmas.Bool.{cases_lt}}
use Rattle.std.proofs.{Math.Seq.{get_or-append_seam}, lemmas.List.Elements.{All-cons, All-from_get_or, All-head, All-nil, All-tail}}
use Rattle.std.proofs.lemmas.List.{get_or-map, get_or-set_other, get_or-set_same, get_or_append_left, get_or_past, length-map}
use Rattle.std.proofs.lemmas.List.{length-replicate, length-set}
use Rattle.class_table.specs.Sizes.{largest_counted}
use Rattle.profile_count.{proofs.LawLemmas.{each_is_zero, length-zeros}, specs.Counts.{nothing_counted as no_requests, with_count, zeros}}
use Rattle.tuner_theory.{specs.Profiles.{AreCounts, Profile, greatest_count}}
use Rattle.tuner_theory.specs.declared.most_snapshots.TheConstants.{MOST_SNAPSHOTS}
use Rattle.history_count.proofs.{Columns.{with_counts-counts, with_counts-length}, Peaks.{empty-are, peaks-empty, peaks-set}}
use Rattle.history_count.specs.CountedLines.{AreFew, AreLinesOf, AreSizes, CountsSizes, HoldsLines, spread, with_sizes}
use Rattle.history_count.specs.Histories.{empty_snapshots, greatest_of, with_counts}

-- ---- one snapshot

pub with_sizes-length : (s sizes counts : List ℕ) → length (with_sizes s sizes counts) ≡ length s
unfolding with_sizes
with_sizes-length s [] counts = refl
with_sizes-length s (n ∷ ns) [] = refl
with_sizes-length s (n ∷ ns) (c ∷ cs) = with_sizes-length (set s n c) ns cs ∙ length-set s n c

pub with_sizes-more : (s sizes counts : List ℕ) (n c : ℕ) → length counts ≡ length sizes
    → with_sizes s (sizes ++ n ∷ []) (counts ++ c ∷ []) ≡ set (with_sizes s sizes counts) n c
unfolding with_sizes
with_sizes-more s [] [] n c size = refl
with_sizes-more s [] (d ∷ ds) n c size = absurd (omega arith)
with_sizes-more s (m ∷ ms) [] n c size = absurd (omega arith)
with_sizes-more s (m ∷ ms) (d ∷ ds) n c size = with_sizes-more (set s m d) ms ds n c (omega arith)

-- a size that is none of these keeps its count
pub with_sizes-other : (s sizes counts : List ℕ) (n : ℕ) → ((k : ℕ) → k < length sizes → slice_index sizes k ≢ n)
    → slice_index (with_sizes s sizes counts) n ≡ slice_index s n
unfolding with_sizes
with_sizes-other s [] counts n none = refl
with_sizes-other s (m ∷ ms) [] n none = refl
with_sizes-other s (m ∷ ms) (c ∷ cs) n none =
    let rest = with_sizes-other (set s m c) ms cs n (λ k lt. none (suc k) (omega arith)) in
    let apart : m ≢ n = none 0 (omega arith) in
    rest ∙ grind (arith, get_or-set_other)

-- and each of these has its own.
pub with_sizes-at : (s sizes counts : List ℕ) → ((i j : ℕ) → i < j → j < length sizes → slice_index sizes i < slice_index sizes j)
    → ((k : ℕ) → k < length sizes → slice_index sizes k < length s) → length counts ≡ length sizes → (k : ℕ) → k < length sizes
    → slice_index (with_sizes s sizes counts) (slice_index sizes k) ≡ slice_index counts k
unfolding with_sizes
with_sizes-at s [] counts up small size k lt = absurd (omega arith)
with_sizes-at s (m ∷ ms) [] up small size k lt = absurd (omega arith)
with_sizes-at s (m ∷ ms) (c ∷ cs) up small size zero lt =
    with_sizes-other (set s m c) ms cs m (λ k within e. let above = up 0 (suc k) (omega arith) (omega arith) in omega (arith, above, e))
    ∙ get_or-set_same s m c 0 (small 0 (omega arith))
with_sizes-at s (m ∷ ms) (c ∷ cs) up small size (suc k) lt =
    with_sizes-at (set s m c) ms cs (λ i j less within. up (suc i) (suc j) (omega arith) (omega arith))
    (λ i within. omega (arith, small (suc i) (omega arith), length-set s m c)) (omega arith) k (omega arith)

-- ---- all snapshots

-- Each column with one more count.
unfoldable pub each_more : List (List ℕ) → List ℕ → List (List ℕ)
each_more (column ∷ columns) (count ∷ counts) = (column ++ count ∷ []) ∷ each_more columns counts
each_more columns counts = columns

pub spread-length : (sizes : List ℕ) (columns : List (List ℕ)) → length (spread sizes columns) ≡ length columns
spread-length sizes columns = length-map columns (λ column. with_sizes (zeros (largest_counted + 1)) sizes column)

pub each_more-length : (columns : List (List ℕ)) (counts : List ℕ) → length (each_more columns counts) ≡ length columns
unfolding each_more
each_more-length [] counts = refl
each_more-length (column ∷ columns) [] = refl
each_more-length (column ∷ columns) (c ∷ cs) = ap suc (each_more-length columns cs)

-- one line more
pub spread-more : (sizes : List ℕ) (columns : List (List ℕ)) (n : ℕ) (counts : List ℕ) → All (λ column. length column ≡ length sizes) columns
    → length counts ≡ length columns → spread (sizes ++ n ∷ []) (each_more columns counts) ≡ with_counts (spread sizes columns) n counts
unfolding each_more with_counts
spread-more sizes [] n counts are size = refl
spread-more sizes (column ∷ columns) n [] are size = absurd (omega arith)
spread-more sizes (column ∷ columns) n (c ∷ cs) are size =
    let long : length column ≡ length sizes = All-head (λ (column : List ℕ). length column ≡ length sizes) column columns are in
    rw (
      with_sizes-more (zeros (largest_counted + 1)) sizes column n c long,
      spread-more sizes columns n cs (All-tail (λ (column : List ℕ). length column ≡ length sizes) column columns are) (omega arith),
    ) refl

-- no line
pub spread-none : (count : ℕ) → spread [] (replicate count []) ≡ empty_snapshots count
unfolding empty_snapshots with_sizes
spread-none zero = refl
spread-none (suc n) = ap (λ (l : List (List ℕ)). zeros (largest_counted + 1) ∷ l) (spread-none n)

columns-more : (sizes : List ℕ) (columns : List (List ℕ)) (n : ℕ) (counts : List ℕ) → All (λ column. length column ≡ length sizes) columns
    → length counts ≡ length columns → All (λ column. length column ≡ length (sizes ++ n ∷ [])) (each_more columns counts)
unfolding each_more
columns-more sizes [] n counts are size = All-nil (λ (column : List ℕ). length column ≡ length (sizes ++ n ∷ []))
columns-more sizes (column ∷ columns) n [] are size = absurd (omega arith)
columns-more sizes (column ∷ columns) n (c ∷ cs) are size =
    let long : length column ≡ length sizes = All-head (λ (column : List ℕ). length column ≡ length sizes) column columns are in
    All-cons (λ (column : List ℕ). length column ≡ length (sizes ++ n ∷ [])) (column ++ c ∷ []) (each_more columns cs)
    (omega (arith, long, length-append column (c ∷ []), length-append sizes (n ∷ [])))
    (columns-more sizes columns n cs (All-tail (λ (column : List ℕ). length column ≡ length sizes) column columns are) (omega arith))

sizes-more : (sizes : List ℕ) (n : ℕ) → AreSizes sizes → n ≤ largest_counted → ((k : ℕ) → k < length sizes → slice_index sizes k < n)
    → AreSizes (sizes ++ n ∷ [])
sizes-more sizes n are small above = record {
  ascending = λ i j less within. up i j less within (cases_lt j (length sizes));
  small = λ k within. low k within (cases_lt k (length sizes));
}
  where
    at : (k : ℕ) → k < length sizes → slice_index (sizes ++ n ∷ []) k ≡ slice_index sizes k
    at k lt = get_or_append_left sizes (n ∷ []) 0 k lt

    at_end : (k : ℕ) → k < length (sizes ++ n ∷ []) → length sizes ≤ k → slice_index (sizes ++ n ∷ []) k ≡ n
    at_end k within past =
        let same : k ≡ length sizes = omega (arith, within, length-append sizes (n ∷ [])) in
        rw same (get_or-append_seam sizes n [] 0)

    up : (i j : ℕ) → i < j → j < length (sizes ++ n ∷ []) → ((j < length sizes) ⊎ (length sizes ≤ j))
        → slice_index (sizes ++ n ∷ []) i < slice_index (sizes ++ n ∷ []) j
    up i j less within (inl lt) = omega (arith, are.ascending i j less lt, at i (omega arith), at j lt)
    up i j less within (inr past) = grind (arith, length-append, at, at_end)

    low : (k : ℕ) → k < length (sizes ++ n ∷ []) → ((k < length sizes) ⊎ (length sizes ≤ k))
        → slice_index (sizes ++ n ∷ []) k ≤ largest_counted
    low k within (inl lt) = omega (arith, are.small k lt, at k lt)
    low k within (inr past) = omega (arith, small, at_end k within past)

pub holds-more : (sizes : List ℕ) (columns : List (List ℕ)) (kept : Profile) (n : ℕ) (counts : List ℕ)
    → HoldsLines (length counts) sizes columns kept → n ≤ largest_counted → ((k : ℕ) → k < length sizes → slice_index sizes k < n)
    → All (λ count. count ≤ greatest_count) counts
    → HoldsLines (length counts) (sizes ++ n ∷ []) (each_more columns counts) (with_count kept n (greatest_of counts))
holds-more sizes columns kept n counts holds small above few =
    let before = spread sizes columns in
    let size : length counts ≡ length columns = sym holds.width in
    let same : length counts ≡ length before = size ∙ sym (spread-length sizes columns) in
    let are = spread-more sizes columns n counts holds.columns_are size in
    record {
      width = each_more-length columns counts ∙ holds.width;
      sizes_are = sizes-more sizes n holds.sizes_are small above;
      columns_are = columns-more sizes columns n counts holds.columns_are size;
      snapshots = rw are (record {
        some = omega (arith, holds.snapshots.some, with_counts-length before n counts);
        few = omega (arith, holds.snapshots.few, with_counts-length before n counts);
        counts = with_counts-counts before n counts holds.snapshots.counts few;
      });
      peaks_are = rw (are, peaks-set before n counts holds.snapshots.counts small same, holds.peaks_are) refl;
    }

-- no line yet
pub columns-none : (count : ℕ) → (let none : List ℕ = [] in All (λ column. length column ≡ length none) (replicate count none))
columns-none zero = All-nil (λ (column : List ℕ). length column ≡ 0)
columns-none (suc n) = All-cons (λ (column : List ℕ). length column ≡ 0) [] (replicate n []) refl (columns-none n)

pub holds-none : (count : ℕ) → 1 ≤ count → count ≤ MOST_SNAPSHOTS → HoldsLines count [] (replicate count []) no_requests
holds-none count some few = grind (arith, length-replicate, columns-none, spread-none, empty-are, peaks-empty)

-- ---- what the lines say

-- the snapshot of a column counts these sizes, and no others
pub with_sizes-counts : (sizes column : List ℕ) → AreSizes sizes → length column ≡ length sizes
    → CountsSizes (with_sizes (zeros (largest_counted + 1)) sizes column) sizes column
with_sizes-counts sizes column are long = grind (arith, with_sizes-at, length-zeros, with_sizes-other, each_is_zero)

-- no count of a snapshot's column is too great
pub column-few : (snapshot sizes column : List ℕ) → AreCounts snapshot → CountsSizes snapshot sizes column → (k : ℕ)
    → slice_index column k ≤ greatest_count
column-few snapshot sizes column are counts k = grind (arith, get_or_past)

module _ (count : ℕ) (sizes : List ℕ) (columns : List (List ℕ)) (kept : Profile) (holds : HoldsLines count sizes columns kept) where
  counts-sizes : (t : ℕ) → t < length columns
      → CountsSizes (slice_index_or (spread sizes columns) t []) sizes (slice_index_or columns t [])
  counts-sizes t lt = grind (arith, get_or-map, with_sizes-counts)

  pub lines-of : AreLinesOf (spread sizes columns) sizes columns
  lines-of = grind (arith, spread-length, counts-sizes)

  pub lines-few : AreFew (length sizes) columns
  lines-few = record {
    long = holds.columns_are;
    few = All-from_get_or (λ (column : List ℕ). (k : ℕ) → slice_index column k ≤ greatest_count) columns [] (grind (arith, column-few, spread-length, counts-sizes));
  }

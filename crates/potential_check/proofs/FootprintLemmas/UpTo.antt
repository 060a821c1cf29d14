-- Sums of a snapshot up to a need, by the sizes that a class serves.
use Rattle.std.proofs.Common.{◌≡◌, ℕ, zero, suc, ◌+◌, ◌-◌, ◌*◌, ◌%◌, ◌<◌, ◌≤◌, ◌⊎◌, ◌++◌, List, [], ◌∷◌, length, length-append, slice_index}
use Rattle.std.proofs.{Common.{slice_index_or, refl, arith, Vec}, Math.Seq.{get_or-append_seam}}
use Rattle.std.proofs.lemmas.{Bool.{cases_lt, cond-true, cond-false, le-leb, lt-leb}, List.{get_or_append_left, map-append}}
use Rattle.std.specs.declared.alloc.Global.{Global}
use Rattle.class_table.specs.{Sizes.{largest_counted}, Steps.{IsStep}}
use Rattle.potential_check.specs.{Certificates.Spanned.{AreSumsUpTo}, Footprints.SnapshotSums.{AreColumnSums, AreCuts, AreSnapshotSums}}
use Rattle.history_count.{proofs.LawLemmas.{sum-lines}, specs.CountedLines.{AreSizes, CountsSizes}}
use Rattle.tuner_theory.proofs.{LawLemmas.{place_is_class, places_ascend}, Sums.{sum_below-more, sum_below-none, sum_bounded, sum_same}}
use Rattle.tuner_theory.{proofs.Rounding.{fits-rounded, rounded-fits, rounded-positive, step-positive}, specs.Lists.{lists_of}}
use Rattle.tuner_theory.specs.{Profiles.{AreCounts, greatest_count}, Spans.{counted_up_to, need_at, places}, Waste.{sum_below}}

sum-cut : (f g : ℕ → ℕ) (len m : ℕ) → m ≤ len → ((n : ℕ) → n < m → f n ≡ g n) → ((n : ℕ) → m ≤ n → n < len → f n ≡ 0)
    → sum_below f len ≡ sum_below g m
sum-cut f g zero m le same none = grind (arith, sum_below-none)
sum-cut f g (suc len) m le same none = grind (arith, sum_below-more, sum_same f g (suc len), sum-cut f g len m)

-- a class, or none
abbrev pub IsClassOrNone : ℕ → ℕ → Type 0
IsClassOrNone step need = (need ≡ 0) ⊎ ((2 ≤ need) × (need % step ≡ 0))

pub counted-cut : (counts : List ℕ) (step : ℕ) → 0 < step → (need : ℕ) → IsClassOrNone step need → 16 * need - 15 ≤ length counts
    → counted_up_to counts step need ≡ sum_below (slice_index counts) (16 * need - 15)
counted-cut counts step pos need class le = grind (arith, sum-cut, slice_index, cond-true, le-leb, cond-false, lt-leb, fits-rounded, cases_lt, rounded-fits, rounded-positive)

-- ---- the sums of a column

pub sum-grows : (f : ℕ → ℕ) (from end : ℕ) → from ≤ end → sum_below f from ≤ sum_below f end
sum-grows f from zero le = let same : from ≡ 0 = omega arith in rw same (omega arith)
sum-grows f from (suc end) le = grind (arith, sum-grows f from end, sum_below-more)

pub sum-small : (column : List ℕ) (m : ℕ) → ((k : ℕ) → slice_index column k ≤ greatest_count) → m ≤ largest_counted + 1
    → sum_below (slice_index column) m ≤ (largest_counted + 1) * greatest_count
sum-small column m few le =
    let bounded = sum_bounded (slice_index column) m greatest_count (λ n lt. few n) in
    omega (arith, bounded)

-- the sums up to the cuts before this one
pub record AreSumsBefore (column cuts : List ℕ) (p : ℕ) (sums : List ℕ) : Type 0 where
  pub size : length sums ≡ p + 1
  pub none : slice_index sums 0 ≡ 0
  pub each : (q : ℕ) → q < p → slice_index sums (q + 1) ≡ sum_below (slice_index column) (slice_index cuts q)

pub sums-none : (column cuts : List ℕ) → AreSumsBefore column cuts 0 (0 ∷ [])
sums-none column cuts = record { size = refl; none = refl; each = λ q lt. absurd (omega arith) }

pub sums-more : (column cuts : List ℕ) (p total : ℕ) (sums : List ℕ) → AreSumsBefore column cuts p sums
    → total ≡ sum_below (slice_index column) (slice_index cuts p) → AreSumsBefore column cuts (p + 1) (sums ++ total ∷ [])
sums-more column cuts p total sums before is = grind (arith, length-append, get_or_append_left, cases_lt, get_or-append_seam)

-- ---- cuts

module _ (sizes counts : List ℕ) (step : ℕ) (cuts : List ℕ) (pos : 0 < step) (are : AreCuts sizes counts step cuts) where
  pub cuts-ascend : (p q : ℕ) → p ≤ q → q < length cuts → slice_index cuts p ≤ slice_index cuts q
  cuts-ascend p q le within = grind (arith, places_ascend)

-- The sums of a column are those of its snapshot.
module _ (snapshot sizes column counts cuts sums : List ℕ) (step : ℕ) (is_step : IsStep step) (are_counts : AreCounts counts)
    (are : AreCounts snapshot) (sizes_are : AreSizes sizes) (counted : CountsSizes snapshot sizes column)
    (cuts_are : AreCuts sizes counts step cuts) (sums_are : AreColumnSums column cuts sums) where
  at : (i : ℕ) → i ≤ places counts step → slice_index sums i ≡ counted_up_to snapshot step (need_at counts step i)
  at zero le = grind (arith, counted-cut, step-positive, sum_below-none)
  at (suc p) le =
      let place : p + 1 ≡ suc p = omega arith in
      grind (arith, place_is_class, counted-cut, sum-lines)

  pub column-sums : AreSumsUpTo (counted_up_to snapshot step) counts step sums
  column-sums = record { size = omega (arith, sums_are.size, cuts_are.size); sums_are = at }

-- the sums of the first t snapshots
pub record AreSumsOfFirst (snapshots : List (List ℕ)) (counts : List ℕ) (step t : ℕ) (sums : List (List ℕ)) : Type 0 where
  pub size : length sums ≡ t
  pub each : (k : ℕ) → k < t → AreSumsUpTo (counted_up_to (slice_index_or snapshots k []) step) counts step (slice_index_or sums k [])

pub first-more : (snapshots : List (List ℕ)) (counts : List ℕ) (step t : ℕ) (sums : List (Vec ℕ Global)) (v : Vec ℕ Global)
    → AreSumsOfFirst snapshots counts step t (lists_of sums)
    → AreSumsUpTo (counted_up_to (slice_index_or snapshots t []) step) counts step v.items
    → AreSumsOfFirst snapshots counts step (t + 1) (lists_of (sums ++ v ∷ []))
first-more snapshots counts step t sums v before is = grind (arith, map-append, length-append, cases_lt, slice_index_or, get_or_append_left, get_or-append_seam)

pub first-all : (snapshots : List (List ℕ)) (counts : List ℕ) (step t : ℕ) (sums : List (List ℕ)) → t ≡ length snapshots
    → AreSumsOfFirst snapshots counts step t sums → AreSnapshotSums snapshots counts step sums
first-all snapshots counts step t sums all are = grind arith

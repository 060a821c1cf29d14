-- The footprint is the sum of the intervals of its classes.
use Rattle.std.proofs.Common.{◌≡◌, ℕ, zero, suc, ◌+◌, ◌*◌, ◌%◌, ◌<◌, ◌≤◌, Bool, false, List, [], ◌∷◌, length, slice_index}
use Rattle.std.proofs.{Common.{get_or, cond, ltb, arith, refl, ap, ◌∙◌, inl, inr, All, sum_by}, Math.Nat.{mul-le-mul}}
use Rattle.std.proofs.lemmas.{Bool.{cases_lt}, Bool.Decides.{nat_tests}, List.Sums.{sum_by-cons}}
use Rattle.std.{proofs.lemmas.List.FromFn.{get_or-map-range_with_len, length-map-range_with_len}}
use Rattle.class_table.{proofs.LawLemmas.{AreClassesAbove, classes_of_legal_table}, specs.Sizes.{largest_counted}}
use Rattle.tuner_theory.proofs.{Rounding.{rounded-positive}, Served.{counted-served}, Sums.{sum_at_most, sum_same}}
use Rattle.tuner_theory.{proofs.Tables.{cost-at_one}, specs.Histories.{AreSnapshots, most, peaks}}
use Rattle.tuner_theory.specs.{Footprint.{blocks, blocks_between, footprint_between, footprint_of, is_class_of}, Profiles.{IsCounted}}
use Rattle.tuner_theory.specs.{Intervals.{IsIntervalCost, IsSumOfIntervals, cost_above}, Served.{served}, Spans.{rounded_need}}
use Rattle.tuner_theory.specs.Waste.{sum_below}

-- ---- the most over snapshots

pub most-mono : (f g : List ℕ → ℕ) (snapshots : List (List ℕ)) → All (λ s. f s ≤ g s) snapshots → most f snapshots ≤ most g snapshots
most-mono f g [] each = omega arith
most-mono f g (s ∷ ss) each = omega (arith, each 0 [] (omega arith), most-mono f g ss (λ k d lt. each (suc k) d (omega arith)))

pub most-same : (f g : List ℕ → ℕ) (snapshots : List (List ℕ)) → ((s : List ℕ) → f s ≡ g s) → most f snapshots ≡ most g snapshots
most-same f g [] each = refl
most-same f g (s ∷ ss) each = omega (arith, each s, most-same f g ss each)

pub most-above : (f : List ℕ → ℕ) (snapshots : List (List ℕ)) → All (λ s. f s ≤ most f snapshots) snapshots
most-above f [] k d lt = absurd (omega arith)
most-above f (s ∷ ss) zero d lt = omega arith
most-above f (s ∷ ss) (suc k) d lt = omega (arith, most-above f ss k d (omega arith))

pub peak-at : (snapshots : List (List ℕ)) (n d : ℕ) → n ≤ largest_counted
    → get_or (peaks snapshots) n d ≡ most (λ s. slice_index s n) snapshots
unfolding peaks
peak-at snapshots n d le =
    get_or-map-range_with_len (λ m. most (λ s. slice_index s m) snapshots) 0 (largest_counted + 1) n n d (omega arith) (omega arith)

pub peaks-length : (snapshots : List (List ℕ)) → length (peaks snapshots) ≡ largest_counted + 1
unfolding peaks
peaks-length snapshots = length-map-range_with_len (λ m. most (λ s. slice_index s m) snapshots) 0 (largest_counted + 1)

module _ (snapshots : List (List ℕ)) (are : AreSnapshots snapshots) where
  -- a size of which a block is live at a snapshot is counted
  pub counted-at : (k n : ℕ) (d : List ℕ) → k < length snapshots → n < length (get_or snapshots k d)
      → 0 < slice_index (get_or snapshots k d) n → IsCounted (peaks snapshots) n
  counted-at k n d lt within some = grind (arith, peaks-length, peak-at, most-above)

  -- what is taken from an interval is a cost of intervals
  pub footprint-cost : (step : ℕ) → IsIntervalCost (peaks snapshots) step (footprint_between snapshots step)
  footprint-cost step a b low high bh has =
      let sizes : 16 * b ≤ 16 * high = omega arith in
      mul-le-mul sizes (most-mono _ _ snapshots (λ k d lt.
      sum_at_most _ _ (length (get_or snapshots k d)) (λ n within.
      elim (cases_lt 0 (slice_index (get_or snapshots k d) n)) [
        | inl some ↦ cost-at_one (rounded_need step n) a b low high _ _ bh (has n (counted-at k n d lt within some)) (omega arith)
        | inr none ↦ grind arith
      ])))

-- ---- the blocks of each class

-- of the blocks whose rounded need is above low, those whose class is this one
abbrev pub blocks_above : ℕ → ℕ → List ℕ → ℕ → List ℕ → ℕ
blocks_above step low classes class s =
    sum_below (λ n. cond (ltb low (rounded_need step n)) (cond (is_class_of classes class n) (slice_index s n) 0) 0) (length s)

abbrev pub footprint_above : List (List ℕ) → ℕ → ℕ → List ℕ → ℕ → ℕ
footprint_above snapshots step low classes class = 16 * class * most (blocks_above step low classes class) snapshots

module _ (step : ℕ) (pos : 0 < step) where
  pub later-is : (c class n : ℕ) (cs : List ℕ) → 2 ≤ c → c % step ≡ 0 → c < rounded_need step n
      → is_class_of (c ∷ cs) class n ≡ is_class_of cs class n
  later-is c class n cs two multiple lt = grind arith

  -- no size has a class that is not among the classes above low
  pub no-class : (low class n : ℕ) (classes : List ℕ) → 1 ≤ low → class ≤ low → AreClassesAbove step low classes
      → is_class_of classes class n ≡ false
  no-class low class n [] one le above = refl
  no-class low class n (c ∷ cs) one le above =
      grind (arith, no-class c class n cs (omega (arith, above.0)) (omega (arith, above.0)) above.3)

  module _ (low c : ℕ) (cs : List ℕ) (one : 1 ≤ low) (above : AreClassesAbove step low (c ∷ cs)) where
    blocks-first : (s : List ℕ) → blocks_above step low (c ∷ cs) c s ≡ blocks_between step low c s
    blocks-first s =
        sum_same _ _ (length s)
        (grind (arith, nat_tests, later-is, no-class))

    blocks-later : (class : ℕ) → c < class → (s : List ℕ) → blocks_above step low (c ∷ cs) class s ≡ blocks_above step c cs class s
    blocks-later class over s = grind (arith, nat_tests, later-is)

  above-each : (low j : ℕ) (classes : List ℕ) → AreClassesAbove step low classes → j < length classes → low < get_or classes j 0
  above-each low j [] above lt = absurd (omega arith)
  above-each low zero (c ∷ cs) above lt = above.0
  above-each low (suc j) (c ∷ cs) above lt = omega (arith, above.0, above-each c j cs above.3 (omega arith))

  blocks-at : (low j : ℕ) (classes s : List ℕ) → 1 ≤ low → AreClassesAbove step low classes → j < length classes
      → blocks_above step low classes (get_or classes j 0) s ≡ blocks_between step (get_or (low ∷ classes) j 0) (get_or classes j 0) s
  blocks-at low j [] s one above lt = absurd (omega arith)
  blocks-at low zero (c ∷ cs) s one above lt = blocks-first low c cs one above s
  blocks-at low (suc j) (c ∷ cs) s one above lt =
      grind (arith, blocks-at c j cs s (omega (arith, above.0)) above.3 (omega arith), blocks-later, above-each)

  needed : (x v : ℕ) → 2 ≤ x → v ≡ cond (ltb 1 x) v 0
  needed x v two = grind (arith, nat_tests)

  -- The blocks of a class are those between the class before it and itself.
  pub blocks-of_number : (j : ℕ) (classes s : List ℕ) → AreClassesAbove step 1 classes → j < length classes
      → blocks classes (get_or classes j 0) s ≡ blocks_between step (get_or (1 ∷ classes) j 0) (get_or classes j 0) s
  blocks-of_number j classes s above lt =
      sum_same _ _ (length s) (λ n within. needed (rounded_need step n) _ (rounded-positive step pos n))
      ∙ blocks-at 1 j classes s (omega arith) above lt

  -- what holds of each class above c
  pub sum-later : (f g : ℕ → ℕ) (c low : ℕ) (classes : List ℕ) → ((class : ℕ) → c < class → f class ≡ g class) → c ≤ low
      → AreClassesAbove step low classes → sum_by f classes ≡ sum_by g classes
  sum-later f g c low [] each le above = refl
  sum-later f g c low (d ∷ ds) each le above = grind (arith, sum-later f g c d ds each (omega (arith, above.0)) above.3, sum_by-cons)

  pub footprint-above : (snapshots : List (List ℕ)) (low : ℕ) (classes : List ℕ) → 1 ≤ low → AreClassesAbove step low classes
      → sum_by (footprint_above snapshots step low classes) classes ≡ cost_above (footprint_between snapshots step) low classes
  footprint-above snapshots low [] one above = refl
  footprint-above snapshots low (c ∷ cs) one above =
      omega (
        arith,
        sum_by-cons (footprint_above snapshots step low (c ∷ cs)) c cs,
        ap (λ m. 16 * c * m) (most-same _ _ snapshots (blocks-first low c cs one above)),
        sum-later (footprint_above snapshots step low (c ∷ cs)) (footprint_above snapshots step c cs) c c cs
            (λ class over. ap (λ m. 16 * class * m) (most-same _ _ snapshots (blocks-later low c cs one above class over))) (omega arith)
            above.3,
        footprint-above snapshots c cs (omega (arith, above.0)) above.3,
      )

  -- every need is above 1
  pub footprint-all : (snapshots : List (List ℕ)) (classes : List ℕ) → AreClassesAbove step 1 classes
      → footprint_of snapshots classes ≡ sum_by (footprint_above snapshots step 1 classes) classes
  footprint-all snapshots classes above =
      sum-later _ _ 1 1 classes (grind (arith, most-same, sum_same, needed, rounded-positive)) (omega arith) above

-- where more is counted than the peaks,
pub footprint-cost_on : (snapshots : List (List ℕ)) (counts : List ℕ) (step : ℕ) → AreSnapshots snapshots
    → ((n : ℕ) → IsCounted (peaks snapshots) n → IsCounted counts n) → IsIntervalCost counts step (footprint_between snapshots step)
footprint-cost_on snapshots counts step are covers = grind (arith, footprint-cost)

-- as where the largest class is forced
pub footprint_is_sum : (forced : Bool) (snapshots : List (List ℕ)) (step : ℕ) → 0 < step → AreSnapshots snapshots
    → IsSumOfIntervals (footprint_of snapshots) (footprint_between snapshots step) (served forced (peaks snapshots)) step
footprint_is_sum forced snapshots step pos are = record {
  interval = footprint-cost_on snapshots (served forced (peaks snapshots)) step are (counted-served forced (peaks snapshots));
  sum = λ classes legal. let above = classes_of_legal_table step classes legal in
      footprint-all step pos snapshots classes above ∙ footprint-above step pos snapshots 1 classes (omega arith) above;
}

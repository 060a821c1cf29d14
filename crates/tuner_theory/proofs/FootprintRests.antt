-- The numbers of a fit's rows are the least footprints of what is left above each place.
use Rattle.std.proofs.Common.{◌≡◌, ℕ, ◌*◌, ◌%◌, ◌<◌, ◌≤◌, max, Bool, false, List, [], ◌∷◌, length, map, slice_index, cond, ltb, leb, arith}
use Rattle.std.proofs.{Common.{refl, ap, ◌∙◌}, lemmas.Bool.Decides.{nat_tests}, lemmas.List.Sums.{sum_by-cons}}
use Rattle.class_table.proofs.LawLemmas.{AreClassesAbove}
use Rattle.tuner_theory.proofs.{BoundRests.{IsRestCost, counted-above, counted-to, left-above, length-above}, Rests.{rows_are_rests}}
use Rattle.tuner_theory.proofs.Footprint.{no-class, sum-later, blocks_above, footprint-above, footprint-cost_on, footprint_above, later-is}
use Rattle.tuner_theory.proofs.{Footprint.{most-same}, Rounding.{step-positive}, Served.{counted-served}}
use Rattle.tuner_theory.{proofs.Sums.{sum_none, sum_same}, specs.Footprint.{blocks, footprint_between, footprint_of}}
use Rattle.tuner_theory.specs.{Histories.{AreSnapshots, most, peaks}, Intervals.{cost_above}, Served.{served}, Tuned.{AreFittedRows}}
use Rattle.tuner_theory.specs.{Rests.{IsFootprintRest, counts_above, snapshots_above}}
use Rattle.tuner_theory.specs.Spans.{need_at, places, rounded_need}

most-map : (f : List ℕ → ℕ) (g : List ℕ → List ℕ) (snapshots : List (List ℕ)) → most f (map g snapshots) ≡ most (λ s. f (g s)) snapshots
most-map f g [] = refl
most-map f g (s ∷ ss) = ap (max (f (g s))) (most-map f g ss)

most-none : (snapshots : List (List ℕ)) → most (λ s. 0) snapshots ≡ 0
most-none [] = refl
most-none (s ∷ ss) = omega (arith, most-none ss)

-- one size: what is left of it, in a class or not
left : (x low v w : ℕ) (b : Bool) → 2 ≤ x → w ≡ cond (leb x low) 0 v → cond b w 0 ≡ cond (ltb (max 1 low) x) (cond b v 0) 0
left x low v w b two e = grind (arith, nat_tests)

module _ (snapshots : List (List ℕ)) (step : ℕ) (pos : 0 < step) (counts : List ℕ) (i : ℕ) where
  abbrev need : ℕ
  need = need_at counts step i

  abbrev low : ℕ
  low = max 1 need

  abbrev pub above : List (List ℕ)
  above = snapshots_above snapshots step need

  -- ---- the blocks of a class

  blocks-left : (classes : List ℕ) (class : ℕ) → most (blocks classes class) above ≡ most (blocks_above step low classes class) snapshots
  blocks-left classes class = grind (arith, most-map, length-above, left, left-above)

  sum-above : (classes : List ℕ) → AreClassesAbove step low classes
      → footprint_of above classes ≡ cost_above (footprint_between snapshots step) low classes
  sum-above classes are =
      sum-later step pos _ (footprint_above snapshots step low classes) 1 low classes
      (λ class over. ap (λ m. 16 * class * m) (blocks-left classes class)) (omega arith) are
      ∙ footprint-above step pos snapshots low classes (omega arith) are

  -- a class that is not above the need has no block,
  no-blocks : (c : ℕ) (cs : List ℕ) → c ≤ low → 2 ≤ c → c % step ≡ 0 → AreClassesAbove step c cs → (s : List ℕ)
      → blocks_above step low (c ∷ cs) c s ≡ 0
  no-blocks c cs le two multiple are s =
      sum_none _ (length s) (grind (arith, none, later-is, no-class))
    where
      none : (x v : ℕ) (b : Bool) → (low < x → b ≡ false) → cond (ltb low x) (cond b v 0) 0 ≡ 0
      none x v b is = grind (arith, nat_tests)

  -- and the others have the same without it
  same-blocks : (c class : ℕ) (cs : List ℕ) → c ≤ low → 2 ≤ c → c % step ≡ 0 → (s : List ℕ)
      → blocks_above step low (c ∷ cs) class s ≡ blocks_above step low cs class s
  same-blocks c class cs le two multiple s =
      sum_same _ _ (length s) (λ n lt. same (rounded_need step n) (slice_index s n) _ _ (grind (arith, later-is)))
    where
      same : (x v : ℕ) (b later : Bool) → (low < x → b ≡ later) → cond (ltb low x) (cond b v 0) 0 ≡ cond (ltb low x) (cond later v 0) 0
      same x v b later is = grind (arith, nat_tests)

  drop-class : (c : ℕ) (cs : List ℕ) → c ≤ low → 2 ≤ c → c % step ≡ 0 → AreClassesAbove step c cs
      → footprint_of above (c ∷ cs) ≡ footprint_of above cs
  drop-class c cs le two multiple are =
      omega (
        arith,
        sum_by-cons (λ class. 16 * class * most (blocks (c ∷ cs) class) above) c cs,
        ap (λ m. 16 * c * m) (blocks-left (c ∷ cs) c ∙ most-same _ _ snapshots (no-blocks c cs le two multiple are) ∙ most-none snapshots),
        sum-later step pos (λ class. 16 * class * most (blocks (c ∷ cs) class) above)
            (λ class. 16 * class * most (blocks cs class) above) c c cs
            (grind (arith, blocks-left, most-same, same-blocks)) (omega arith) are,
      )

  pub footprint-rest : IsRestCost (footprint_of above) (footprint_between snapshots step) counts (counts_above counts step i) step i
  footprint-rest = record { from = counted-above counts step i; to = counted-to counts step i; sum = sum-above; drop = drop-class }

pub fitted_rows_are_rests : (forced : Bool) (snapshots : List (List ℕ)) (step limit : ℕ) (rows ends : ℕ → ℕ → ℕ) → AreSnapshots snapshots
    → AreFittedRows forced snapshots step limit rows ends
    → (k i : ℕ) → 1 ≤ k → k ≤ limit → i < places (served forced (peaks snapshots)) step
    → IsFootprintRest forced snapshots step k i (rows k i)
fitted_rows_are_rests forced snapshots step limit rows ends are fitted k i =
    let counts = served forced (peaks snapshots) in
    rows_are_rests (footprint_between snapshots step) counts step limit
    (footprint-cost_on snapshots counts step are (counted-served forced (peaks snapshots))) rows ends fitted
    (footprint_of (snapshots_above snapshots step (need_at counts step i))) (counts_above counts step i) i
    (footprint-rest snapshots step (step-positive step fitted.is_step) counts i) k

-- A table and its waste, class by class.
use Rattle.std.proofs.Common.{◌≡◌, ℕ, ◌+◌, ◌-◌, ◌*◌, ◌%◌, ◌<◌, ◌≤◌, ◌&&◌, List, [], ◌∷◌, length, cond, ltb, leb, Option, Some, unwrap_or}
use Rattle.std.proofs.{Common.{arith, inl, inr, IsSome}, Math.Nat.{mul-le-mul_right}, lemmas.Bool.Decides.{nat_tests}}
use Rattle.std.proofs.lemmas.Bool.{cases_lt, cond_both, cond-true, le-leb}
use Rattle.class_table.{proofs.LawLemmas.{AreClassesAbove, classes_of_legal_table}, specs.Sizes.{loss_of}, specs.Tables.{class_for}}
use Rattle.tuner_theory.proofs.{Needs.{Reaches, place_is_counted}, Rounding.{fits-rounded, rounded-fits}}
use Rattle.tuner_theory.{proofs.Spans.{loss-mono}, proofs.Sums.{sum_at_most, sum_none, sum_split}, specs.Profiles.{IsCounted}}
use Rattle.tuner_theory.specs.{Intervals.{IsIntervalCost, IsSumOfIntervals, cost_above}, Waste.{sum_below, waste_at, waste_of}}
use Rattle.tuner_theory.specs.Spans.{places, rounded_need, waste_between}

-- ---- the class of a request, by its rounded need

module _ (step : ℕ) (pos : 0 < step) (n c : ℕ) (cs : List ℕ) where
  -- the first class serves it where its need is not above that class,
  pub class_for-first : rounded_need step n ≤ c → class_for (c ∷ cs) n ≡ Some c
  class_for-first le = cond-true _ _ _ (le-leb n (16 * c - 16) (rounded-fits step pos n c le))

  -- and otherwise it has its class among the later ones
  pub class_for-later : 2 ≤ c → c % step ≡ 0 → c < rounded_need step n → class_for (c ∷ cs) n ≡ class_for cs n
  class_for-later two multiple lt = grind arith

-- ---- the waste above a need

-- what a table wastes on the counted requests whose rounded need is above low
abbrev pub waste_above : List ℕ → ℕ → ℕ → List ℕ → ℕ
waste_above counts step low classes = sum_below (λ n. cond (ltb low (rounded_need step n)) (waste_at counts classes n) 0) (length counts)

-- it serves each of them
abbrev pub ServesAbove : List ℕ → ℕ → ℕ → List ℕ → Type 0
ServesAbove counts step low classes = (n : ℕ) → IsCounted counts n → low < rounded_need step n → IsSome (class_for classes n)

pub waste_above-none : (counts : List ℕ) (step low : ℕ) → waste_above counts step low [] ≡ 0
waste_above-none counts step low = grind (arith, sum_none, cond_both)

-- at one request, of need x: it is the first class's where its need is not above that class, and else the later ones'
first-or-later : (x low c k n : ℕ) (rest : Option ℕ) → low < c → (x ≤ c → n ≤ 16 * c - 16) → (n ≤ 16 * c - 16 → x ≤ c)
    → cond (ltb low x) (k * loss_of n (unwrap_or (cond (leb n (16 * c - 16)) (Some c) rest) 0)) 0
    ≡ cond (ltb low x && leb x c) (k * loss_of n c) 0 + cond (ltb c x) (k * loss_of n (unwrap_or rest 0)) 0
first-or-later x low c k n rest lt fits back = grind (arith, nat_tests)

module _ (counts : List ℕ) (step : ℕ) (pos : 0 < step) where
  -- every need is above 1
  pub waste_above-all : (classes : List ℕ) → waste_of counts classes ≡ waste_above counts step 1 classes
  waste_above-all classes = grind arith

  -- the first class serves the needs up to it, the later ones the rest
  pub waste_above-cons : (low c : ℕ) (cs : List ℕ) → 1 ≤ low → low < c → c % step ≡ 0
      → waste_above counts step low (c ∷ cs) ≡ waste_between counts step low c + waste_above counts step c cs
  waste_above-cons low c cs one lt multiple =
      sum_split _ _ _ (length counts)
      (grind (arith, first-or-later, rounded-fits, fits-rounded))

  pub ServesAbove-later : (low c : ℕ) (cs : List ℕ) → 1 ≤ low → low < c → c % step ≡ 0 → ServesAbove counts step low (c ∷ cs) →
      ServesAbove counts step c cs
  ServesAbove-later low c cs one lt multiple served n counted above = grind arith

  -- so a table wastes what its classes do, one after the other
  pub waste_above-costs : (low : ℕ) (classes : List ℕ) → 1 ≤ low → AreClassesAbove step low classes
      → waste_above counts step low classes ≡ cost_above (waste_between counts step) low classes
  waste_above-costs low [] one above = waste_above-none counts step low
  waste_above-costs low (c ∷ cs) one above = grind (arith, waste_above-costs c cs (omega (arith, above.0)) above.3, waste_above-cons)

  -- where no class is left and all are served, all places are reached
  pub nothing-left : (low i : ℕ) (classes : List ℕ) → length classes ≤ 0
      → Reaches counts step low (places counts step) i → ServesAbove counts step low classes → i ≡ places counts step
  nothing-left low i (c ∷ cs) none r served = absurd (omega arith)
  nothing-left low i [] none r served =
      elim (cases_lt 0 (places counts step)) [
        | inr no_place ↦ omega (arith, r.within)
        | inl some ↦ (let end = place_is_counted counts step (places counts step) some (omega arith) in
            grind arith)
      ]

-- ---- the waste as a cost of intervals

-- at one request, of need x: intervals that have it both, and a class that is no larger
pub cost-at_one : (x a b low high u v : ℕ) → b ≤ high → (a < x → x ≤ b → low < x) → u ≤ v
    → cond (ltb a x && leb x b) u 0 ≤ cond (ltb low x && leb x high) v 0
cost-at_one x a b low high u v bh has uv = grind (arith, nat_tests)

pub waste-cost : (counts : List ℕ) (step : ℕ) → IsIntervalCost counts step (waste_between counts step)
waste-cost counts step a b low high bh has =
    sum_at_most _ _ (length counts) (grind (arith, cases_lt, cost-at_one, loss-mono, cond_both, mul-le-mul_right))

pub waste-sum : (counts : List ℕ) (step : ℕ) → 0 < step → IsSumOfIntervals (waste_of counts) (waste_between counts step) counts step
waste-sum counts step pos = record {
  interval = waste-cost counts step;
  sum = λ classes legal.
      omega (
        arith,
        waste_above-all counts step pos classes,
        waste_above-costs counts step pos 1 classes (omega arith) (classes_of_legal_table step classes legal),
      );
}

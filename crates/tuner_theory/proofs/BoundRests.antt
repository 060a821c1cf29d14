-- Valid potentials bound what every rest costs from below: what is counted above any place.
use Rattle.std.proofs.Common.{◌≡◌, ℕ, zero, suc, ◌+◌, ◌*◌, ◌<◌, ◌≤◌, ◌%◌, max, List, [], ◌∷◌, length, slice_index, cond, ltb, leb}
use Rattle.std.proofs.Common.{arith, refl, sym, ◌∙◌, inl, inr}
use Rattle.std.proofs.lemmas.Bool.{cases_lt, cond_both, le-ltb}
use Rattle.class_table.proofs.LawLemmas.{AreClassesAbove, classes_of_legal_table}
use Rattle.tuner_theory.proofs.{Bound.{bound}, Needs.{Reaches, place_is_counted, places_ascend}, Rounding.{rounded-positive}}
use Rattle.tuner_theory.proofs.{Sums.{sum_same}, Tables.{ServesAbove, class_for-later, waste_above, waste_above-costs}}
use Rattle.tuner_theory.specs.{Best.{IsCandidate}, Intervals.{IsIntervalCost, cost_above, span_cost}, Potentials.{AreValidPotentials}}
use Rattle.tuner_theory.specs.{Profiles.{IsCounted}, Rests.{counts_above, counts_above_from}, Waste.{waste_of}}
use Rattle.tuner_theory.specs.Spans.{need_at, places, rounded_need, waste_between}

-- ---- the counts above a need

pub length-above : (m : ℕ) (counts : List ℕ) (step low : ℕ) → length (counts_above_from m counts step low) ≡ length counts
length-above m [] step low = refl
length-above m (count ∷ counts) step low = omega (arith, length-above (suc m) counts step low)

index-above : (m n : ℕ) (counts : List ℕ) (step low : ℕ)
    → slice_index (counts_above_from m counts step low) n ≡ cond (leb (rounded_need step (m + n)) low) 0 (slice_index counts n)
index-above m n [] step low = cond_both (leb (rounded_need step (m + n)) low) 0 0 (λ v. 0 ≡ v) (λ e. refl) (λ e. refl)
index-above m zero (count ∷ counts) step low = grind arith
index-above m (suc n) (count ∷ counts) step low = grind (arith, index-above (suc m) n counts step low)

kept : (x low v w : ℕ) → w ≡ cond (leb x low) 0 v → 0 < w → (low < x) × (0 < v)
kept x low v w e some = grind arith

masked : (x low w v l : ℕ) → 2 ≤ x → w ≡ cond (leb x low) 0 v → w * l ≡ cond (ltb (max 1 low) x) (v * l) 0
masked x low w v l two e = grind arith

pub left-above : (n : ℕ) (counts : List ℕ) (step low : ℕ)
    → slice_index (counts_above_from 0 counts step low) n ≡ cond (leb (rounded_need step n) low) 0 (slice_index counts n)
left-above n counts step low = grind (arith, index-above)

module _ (counts : List ℕ) (step i : ℕ) where
  pub counted-above : (n : ℕ) → IsCounted (counts_above counts step i) n
      → IsCounted counts n × (need_at counts step i < rounded_need step n)
  counted-above n counted = grind (arith, left-above, length-above)

  pub counted-to : (n : ℕ) → IsCounted counts n → need_at counts step i < rounded_need step n → IsCounted (counts_above counts step i) n
  counted-to n counted above = grind (arith, length-above, left-above)

module _ (counts : List ℕ) (step : ℕ) (pos : 0 < step) (i : ℕ) where
  pub reach-low : i ≤ places counts step → Reaches counts step (max 1 (need_at counts step i)) (places counts step) i
  reach-low le = record {
    within = le;
    reached = omega arith;
    last = λ j within below. elim (cases_lt i j) [
      | inr not ↦ not
      | inl lt ↦ (let at = place_is_counted counts step j (omega arith) within in
          absurd (omega (arith, places_ascend counts step pos i j lt within, at.2, rounded-positive step pos at.0)))
    ];
  }

-- ---- a cost of tables for what is counted above a place

-- The sum of the intervals from its need on. A class that is not above it costs nothing, since it serves nothing.
pub record IsRestCost (cost : List ℕ → ℕ) (between : ℕ → ℕ → ℕ) (counts above : List ℕ) (step i : ℕ) : Type 0 where
  pub from : (n : ℕ) → IsCounted above n → IsCounted counts n × (need_at counts step i < rounded_need step n)
  pub to : (n : ℕ) → IsCounted counts n → need_at counts step i < rounded_need step n → IsCounted above n
  pub sum : (classes : List ℕ) → AreClassesAbove step (max 1 (need_at counts step i)) classes
      → cost classes ≡ cost_above between (max 1 (need_at counts step i)) classes
  pub drop : (c : ℕ) (cs : List ℕ) → c ≤ max 1 (need_at counts step i) → 2 ≤ c → c % step ≡ 0 → AreClassesAbove step c cs
      → cost (c ∷ cs) ≡ cost cs

-- ---- a table without the classes up to low

record Dropped (cost : List ℕ → ℕ) (counts : List ℕ) (step low : ℕ) (classes : List ℕ) : Type 0 where
  table : List ℕ
  above : AreClassesAbove step low table
  few : length table ≤ length classes
  costs : cost table ≡ cost classes
  served : ServesAbove counts step low table

module _ (counts : List ℕ) (step : ℕ) (pos : 0 < step) (cost : List ℕ → ℕ) (low : ℕ)
    (drop : (c : ℕ) (cs : List ℕ) → c ≤ low → 2 ≤ c → c % step ≡ 0 → AreClassesAbove step c cs → cost (c ∷ cs) ≡ cost cs) where
  drop-low : (base : ℕ) (classes : List ℕ) → 1 ≤ base → AreClassesAbove step base classes → ServesAbove counts step low classes
      → Dropped cost counts step low classes
  drop-low base [] one above served = record { table = []; above = tt; few = omega arith; costs = refl; served = served }
  drop-low base (c ∷ cs) one above served =
      let two : 2 ≤ c = omega (arith, above.0) in
      elim (cases_lt low c) [
        | inl over ↦ record { table = c ∷ cs; above = (over, above.1, above.2, above.3); few = omega arith; costs = refl; served = served }
        | inr under ↦ (let later = drop-low c cs (omega arith) above.3 (grind (arith, class_for-later)) in
            grind arith)
      ]

-- ---- potentials at every place

module _ (counts : List ℕ) (step : ℕ) (pos : 0 < step) (between : ℕ → ℕ → ℕ) (interval : IsIntervalCost counts step between) (limit : ℕ)
    (potential : ℕ → ℕ → ℕ) (valid : AreValidPotentials (span_cost between counts step) (places counts step) limit potential)
    (cost : List ℕ → ℕ) (above : List ℕ) (i : ℕ) (rest : IsRestCost cost between counts above step i) where
  pub rests-bound : (k : ℕ) (classes : List ℕ) → k ≤ limit → i ≤ places counts step → IsCandidate above step k classes
      → potential k i ≤ cost classes
  rests-bound k classes le within candidate =
      let low = max 1 (need_at counts step i) in
      let served : ServesAbove counts step low classes =
      (λ n counted over. candidate.serving n (rest.to n counted (omega arith))) in
      let dropped = drop-low counts step pos cost low rest.drop 1 classes (omega arith) (classes_of_legal_table step classes candidate.legal)
      served in
      omega (
        arith,
        dropped.costs,
        rest.sum dropped.table dropped.above,
        bound counts step pos between interval limit potential valid dropped.table k low i (omega arith)
            (reach-low counts step pos i within) dropped.above (omega (arith, dropped.few, candidate.few)) le dropped.served,
      )

-- ---- the waste

module _ (counts : List ℕ) (step : ℕ) (pos : 0 < step) (i : ℕ) where
  waste-above : (classes : List ℕ) → waste_of (counts_above counts step i) classes
      ≡ waste_above counts step (max 1 (need_at counts step i)) classes
  waste-above classes = grind (arith, length-above, masked, left-above)

  pub waste-rest : IsRestCost (waste_of (counts_above counts step i)) (waste_between counts step) counts (counts_above counts step i) step i
  waste-rest = record {
    from = counted-above counts step i;
    to = counted-to counts step i;
    sum = λ classes above. waste-above classes ∙ waste_above-costs counts step pos _ classes (omega arith) above;
    drop = λ c cs le two multiple above. waste-above (c ∷ cs) ∙ sum_same _ _ (length counts) (λ n lt. grind (arith, class_for-later, le-ltb))
        ∙ sym (waste-above cs);
  }

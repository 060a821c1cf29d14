-- Valid potentials bound what every table costs from below.
use Rattle.std.proofs.{Common.{◌≡◌, ℕ, zero, suc, ◌+◌, ◌<◌, ◌≤◌, List, [], ◌∷◌, length, arith, ap, inl, inr}, lemmas.Bool.{cases_lt}}
use Rattle.class_table.proofs.LawLemmas.{AreClassesAbove, classes_of_legal_table}
use Rattle.tuner_theory.{proofs.Intervals.{span-least}, proofs.Needs.{Reaches, reach, reach-one}, specs.Best.{IsCandidate}}
use Rattle.tuner_theory.{proofs.Tables.{ServesAbove, ServesAbove-later, nothing-left}, specs.Potentials.{AreValidPotentials}}
use Rattle.tuner_theory.specs.{Intervals.{IsIntervalCost, IsSumOfIntervals, cost_above, span_cost}, Spans.{places}}

module _ (cost : ℕ → ℕ → ℕ) (d limit : ℕ) (potential : ℕ → ℕ → ℕ) (valid : AreValidPotentials cost d limit potential) where
  -- one class more, in numbers: the class reaches from place i to place j, and the classes after it cost at least the rest
  one-class : (k i j rest : ℕ) → 1 ≤ k → k < limit → i ≤ j → j ≤ d → potential k j ≤ rest → potential (suc k) i ≤ cost i j + rest
  one-class k i j rest one few ij jd below =
      elim (cases_lt i j) [
        | inl lt ↦ omega (arith, valid.edge k i j one few lt jd)
        | inr not ↦ (let same : i ≡ j = omega arith in
            elim (cases_lt i d) [
              | inl inside ↦ omega (arith, valid.stage_drop k i one few inside, ap (potential k) same)
              | inr past ↦ (let end : i ≡ d = omega arith in omega (arith, ap (potential (suc k)) end, valid.at_end (suc k)))
            ])
      ]

  -- the last class reaches all places
  last-class : (i : ℕ) → 1 ≤ limit → i ≤ d → potential 1 i ≤ cost i d
  last-class i one le = grind arith

module _ (counts : List ℕ) (step : ℕ) (pos : 0 < step) (between : ℕ → ℕ → ℕ) (cost : IsIntervalCost counts step between) (limit : ℕ)
    (potential : ℕ → ℕ → ℕ) (valid : AreValidPotentials (span_cost between counts step) (places counts step) limit potential) where
  -- a table of at most k classes above low costs at least the potential of the place that low reaches
  pub bound : (classes : List ℕ) (k low i : ℕ) → 1 ≤ low → Reaches counts step low (places counts step) i
      → AreClassesAbove step low classes → length classes ≤ k → k ≤ limit → ServesAbove counts step low classes
      → potential k i ≤ cost_above between low classes
  bound [] k low i one r legal few le served =
      omega (arith, ap (potential k) (nothing-left counts step pos low i [] (omega arith) r served), valid.at_end k)
  bound (c ∷ cs) zero low i one r legal few le served = absurd (omega arith)
  bound (c ∷ cs) (suc k) low i one r legal few le served =
      let d = places counts step in
      let j = reach counts step c d in
      let later = ServesAbove-later counts step pos low c cs one legal.0 legal.2 served in
      let rest = bound cs k c j.0 (omega (arith, legal.0)) j.1 legal.3 (omega arith) (omega arith) later in
      let first = span-least counts step pos between cost low c i j.0 r j.1 in
      let farther : i ≤ j.0 = j.1.last i r.within (omega (arith, r.reached, legal.0)) in
      elim (cases_lt 0 k) [
        | inl more ↦ omega (
          arith,
          one-class (span_cost between counts step) d limit potential valid k i j.0 _ more le farther j.1.within rest,
          first,
        )
        | inr none ↦ (let alone : suc k ≡ 1 = omega arith in
            omega (
              arith,
              ap (λ m. potential m i) alone,
              last-class (span_cost between counts step) d limit potential valid i (omega arith) r.within,
              first,
              ap (span_cost between counts step i) (nothing-left counts step pos c j.0 cs (omega arith) j.1 later),
            ))
      ]

-- a table in question costs at least the first number of row `limit`
pub potentials_bound_costs : (cost : List ℕ → ℕ) (between : ℕ → ℕ → ℕ) (counts : List ℕ) (step limit : ℕ) (potential : ℕ → ℕ → ℕ)
    (classes : List ℕ) → 0 < step → IsSumOfIntervals cost between counts step
    → AreValidPotentials (span_cost between counts step) (places counts step) limit potential
    → IsCandidate counts step limit classes → potential limit 0 ≤ cost classes
potentials_bound_costs cost between counts step limit potential classes pos sums valid candidate =
    omega (
      arith,
      sums.sum classes candidate.legal,
      bound counts step pos between sums.interval limit potential valid classes limit 1 0 (omega arith) (reach-one counts step pos)
          (classes_of_legal_table step classes candidate.legal) candidate.few (omega arith) (λ n counted over. candidate.serving n counted),
    )

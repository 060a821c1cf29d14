-- The table that least rows give is best, and of the best tables whose every class is used the lexicographically least.
use Rattle.std.proofs.Common.{◌≡◌, ℕ, zero, suc, ◌<◌, ◌≤◌, List, [], ◌∷◌, length, slice_index, ltb, Some, arith, refl, subst}
use Rattle.std.proofs.{Common.{inl, inr, All}, lemmas.Bool.{cases_lt, cond_both, ltb-true}, lemmas.List.{get_or_default}}
use Rattle.std.{specs.Bool.{⊤}}
use Rattle.class_table.proofs.LawLemmas.{AreClassesAbove, class_above, classes_of_legal_table, legal_table_of_classes}
use Rattle.class_table.specs.Tables.{class_for}
use Rattle.tuner_theory.proofs.{Bound.{bound, potentials_bound_costs}, Intervals.{span-least}, Rounding.{rounded-positive, step-positive}}
use Rattle.tuner_theory.proofs.{LeastRows.{ends_are_later, least_rows_are_valid}, TunedTable.{IsTableFor, next-above, table-tuned}}
use Rattle.tuner_theory.proofs.Needs.{Reaches, place_is_counted, reach, reach-at, reach-covers, reach-one}
use Rattle.tuner_theory.proofs.Tables.{ServesAbove, ServesAbove-later, class_for-first, class_for-later, nothing-left}
use Rattle.tuner_theory.specs.{Best.{IsBestBy, IsCandidate, IsCanonicalBy, IsLexicographicallyAtMost, IsUsed}, Profiles.{IsCounted}}
use Rattle.tuner_theory.specs.{Intervals.{IsIntervalCost, IsSumOfIntervals, cost_above, span_cost}, Rows.{AreLeastRows, table_of_ends}}
use Rattle.tuner_theory.specs.{Spans.{need_at, places, rounded_need}, Tuned.{AreRowsBy, tuned_table}}

-- ---- used classes

-- each class has a counted request between it and the class before it, the first between it and low
abbrev AreUsedAbove : List ℕ → ℕ → ℕ → List ℕ → Type 0
AreUsedAbove counts step low [] = ⊤
AreUsedAbove counts step low (c ∷ cs) =
    ((n : ℕ) × IsCounted counts n × (low < rounded_need step n) × (rounded_need step n ≤ c)) × AreUsedAbove counts step c cs

-- a counted request above low whose class is the one at k
abbrev IsUsedAt : List ℕ → ℕ → ℕ → List ℕ → ℕ → Type 0
IsUsedAt counts step low classes k =
    (n : ℕ) × IsCounted counts n × (low < rounded_need step n) × (class_for classes n ≡ Some (slice_index classes k))

module _ (step : ℕ) (pos : 0 < step) where
  -- the class of a request is not below its need
  class_for-above : (low n class : ℕ) (classes : List ℕ) → 1 ≤ low → AreClassesAbove step low classes → class_for classes n ≡ Some class
      → rounded_need step n ≤ class
  class_for-above low n class [] one above e = absurd cc
  class_for-above low n class (c ∷ cs) one above e =
      grind (arith, class_for-above c n class cs (omega (arith, above.0)) above.3, class_for-later)

module _ (counts : List ℕ) (step : ℕ) (pos : 0 < step) where
  used-from : (low : ℕ) (classes : List ℕ) → 1 ≤ low → AreClassesAbove step low classes
      → ((k : ℕ) → k < length classes → IsUsedAt counts step low classes k) → AreUsedAbove counts step low classes
  used-from low [] one above used = tt
  used-from low (c ∷ cs) one above used =
      let first = used 0 (omega arith) in (
        (first.0, first.1, first.2, class_for-above step pos low first.0 c (c ∷ cs) one above first.3),
        used-from c cs (omega (arith, above.0)) above.3 (λ k lt.
            let u = used (suc k) (omega arith) in
            grind (arith, class_above)),
      )

  used-to : (low : ℕ) (classes : List ℕ) → 1 ≤ low → AreClassesAbove step low classes → AreUsedAbove counts step low classes
      → (k : ℕ) → k < length classes → IsUsedAt counts step low classes k
  used-to low [] one above used k lt = absurd (omega arith)
  used-to low (c ∷ cs) one above used zero lt = grind (arith, class_for-first)
  used-to low (c ∷ cs) one above used (suc k) lt =
      grind (arith, used-to c cs (omega (arith, above.0)) above.3 used.1 k (omega arith), class_for-later)

  used-from_all : (classes : List ℕ) → AreClassesAbove step 1 classes → All (IsUsed counts classes) classes →
      AreUsedAbove counts step 1 classes
  used-from_all classes above used =
      used-from 1 classes (omega arith) above
      (λ k lt. let u = used k 0 lt in (u.0, u.1, rounded-positive step pos u.0, u.2))

  all-from_used : (classes : List ℕ) → AreClassesAbove step 1 classes → AreUsedAbove counts step 1 classes →
      All (IsUsed counts classes) classes
  all-from_used classes above used k d lt =
      let u = used-to 1 classes (omega arith) above used k lt in
      subst (IsUsed counts classes) (get_or_default classes k 0 d lt) (u.0, u.1, u.3)

-- ---- the order of tables

pub order-antisymmetric : (a b : List ℕ) → IsLexicographicallyAtMost a b → IsLexicographicallyAtMost b a → a ≡ b
order-antisymmetric [] [] h g = refl
order-antisymmetric [] (y ∷ ys) h g = absurd g
order-antisymmetric (x ∷ xs) [] h g = absurd h
order-antisymmetric (x ∷ xs) (y ∷ ys) (inl h) (inl g) = absurd (omega arith)
order-antisymmetric (x ∷ xs) (y ∷ ys) (inl h) (inr g) = absurd (omega (arith, g.0))
order-antisymmetric (x ∷ xs) (y ∷ ys) (inr h) (inl g) = absurd (omega (arith, h.0))
order-antisymmetric (x ∷ xs) (y ∷ ys) (inr h) (inr g) = let later = order-antisymmetric xs ys h.1 g.1 in let first = h.0 in cc

module _ (counts : List ℕ) (step : ℕ) (pos : 0 < step) (between : ℕ → ℕ → ℕ) (cost : IsIntervalCost counts step between) (limit : ℕ)
    (rows ends : ℕ → ℕ → ℕ) (least : AreLeastRows (span_cost between counts step) (places counts step) limit rows ends) where
  -- each class that is read off is the need of a counted request
  tuned-used : (k i low : ℕ) → k ≤ limit → Reaches counts step low (places counts step) i
      → AreUsedAbove counts step low (table_of_ends (need_at counts step) ends (places counts step) k i)
  tuned-used zero i low le r = tt
  tuned-used (suc k) i low le r =
      cond_both (ltb i (places counts step)) _ _ (AreUsedAbove counts step low)
      (λ e. let j = ends (suc k) i in
      let far = ends_are_later _ _ limit rows ends least (suc k) i (omega arith) le (ltb-true i (places counts step) e) in
      let at = place_is_counted counts step j (omega (arith, far.0)) far.1 in (
        (at.0, at.1, omega (arith, at.2, next-above counts step pos low i j r far.0 far.1), omega (arith, at.2)),
        tuned-used k j (need_at counts step j) (omega arith) (reach-at counts step pos j far.1),
      ))
      (λ e. tt)

  -- the table that is read off comes before each used table that costs no more
  tuned-first : (k i low : ℕ) (classes : List ℕ) → 1 ≤ low → k ≤ limit → Reaches counts step low (places counts step) i
      → AreClassesAbove step low classes → length classes ≤ k → ServesAbove counts step low classes → AreUsedAbove counts step low classes
      → cost_above between low classes ≤ rows k i
      → IsLexicographicallyAtMost (table_of_ends (need_at counts step) ends (places counts step) k i) classes
  tuned-first zero i low classes one le r above few served used costs = tt
  tuned-first (suc k) i low [] one le r above few served used costs =
      cond_both (ltb i (places counts step)) _ _ (λ table. IsLexicographicallyAtMost table [])
      (λ e. absurd (omega (arith, ltb-true i (places counts step) e, nothing-left counts step pos low i [] (omega arith) r served)))
      (λ e. tt)
  tuned-first (suc zero) i low (c ∷ cs) one le r above few served used costs =
      let d = places counts step in
      cond_both (ltb i d) _ _ (λ table. IsLexicographicallyAtMost table (c ∷ cs))
      (λ e. let j = reach counts step c d in
      let later = ServesAbove-later counts step pos low c cs one above.0 above.2 served in
      let all : j.0 ≡ d = nothing-left counts step pos c j.0 cs (omega arith) j.1 later in
      grind arith)
      (λ e. tt)
  tuned-first (suc (suc k)) i low (c ∷ cs) one le r above few served used costs =
      let d = places counts step in
      cond_both (ltb i d) _ _ (λ table. IsLexicographicallyAtMost table (c ∷ cs))
      (λ e. let j = reach counts step c d in
      let far : i < j.0 = grind (arith, reach-covers) in
      let later = ServesAbove-later counts step pos low c cs one above.0 above.2 served in
      let row = least.later_row (suc k) i (omega arith) (omega arith) (ltb-true i d e) in
      let end = ends (suc (suc k)) i in
      let rest : rows (suc k) j.0 ≤ cost_above between c cs =
      bound counts step pos between cost limit rows (least_rows_are_valid _ _ _ rows ends least) cs (suc k) c j.0 (omega (arith, above.0)) j.1 above.3
      (omega arith) (omega arith) later in
      let first = span-least counts step pos between cost low c i j.0 r j.1 in
      elim (cases_lt (need_at counts step end) c) [
        | inl lt ↦ inl lt
        | inr ge ↦ (let no_later : j.0 ≤ end = grind (arith, reach-at) in
            elim (cases_lt j.0 end) [
              | inl before ↦ absurd (omega (arith, row.0.first j.0 far before, row.1, rest, first, costs))
              | inr not ↦ (let same : j.0 ≡ end = omega arith in
                  let r' : Reaches counts step c d end = subst (Reaches counts step c d) same j.1 in
                  inr (
                    omega (arith, r'.reached),
                    tuned-first (suc k) end c cs (omega (arith, above.0)) (omega arith) r' above.3 (omega arith) later used.1
                        (omega (arith, row.1, costs, span-least counts step pos between cost low c i end r r')),
                  ))
            ])
      ])
      (λ e. tt)

-- ---- the table from the last row and place 0

pub rows-canonical : (cost : List ℕ → ℕ) (between : ℕ → ℕ → ℕ) (counts : List ℕ) (step limit : ℕ) (rows ends : ℕ → ℕ → ℕ)
    → IsSumOfIntervals cost between counts step → AreRowsBy between counts step limit rows ends
    → IsCanonicalBy cost counts step limit (tuned_table counts step limit ends)
    × (cost (tuned_table counts step limit ends) ≡ rows limit 0)
rows-canonical cost between counts step zero rows ends sums tuned = absurd (omega (arith, tuned.some))
rows-canonical cost between counts step (suc k) rows ends sums tuned = (record { best = best; used = used; least = least }, costs)
  where
    pos : 0 < step
    pos = step-positive step tuned.is_step

    table : List ℕ
    table = tuned_table counts step (suc k) ends

    is : IsTableFor between counts step (suc k) 1 (rows (suc k) 0) table
    is =
        table-tuned counts step tuned.is_step (omega (arith, tuned.are_counts.sizes)) between sums.interval (suc k) rows ends tuned.least
        k 0 1 (omega arith) (omega arith) (reach-one counts step pos)

    candidate : IsCandidate counts step (suc k) table
    candidate = record {
      legal = legal_table_of_classes step 1 table (omega arith) (omega (arith, is.few, tuned.few)) is.above;
      few = is.few;
      serving = λ n counted. is.served n counted (omega (arith, rounded-positive step pos n));
    }

    costs : cost table ≡ rows (suc k) 0
    costs = omega (arith, sums.sum table candidate.legal, is.costs)

    best : IsBestBy cost counts step (suc k) table
    best = record {
      candidate = candidate;
      least =
          λ other question. omega (
            arith,
            costs,
            potentials_bound_costs cost between counts step (suc k) rows other pos sums (least_rows_are_valid _ _ _ rows ends tuned.least) question,
          );
    }

    used : All (IsUsed counts table) table
    used =
        all-from_used counts step pos table is.above
        (tuned-used counts step pos between sums.interval (suc k) rows ends tuned.least (suc k) 0 1 (omega arith)
        (reach-one counts step pos))

    least : (other : List ℕ) → IsBestBy cost counts step (suc k) other → All (IsUsed counts other) other →
        IsLexicographicallyAtMost table other
    least other best_too used_too =
        let above = classes_of_legal_table step other best_too.candidate.legal in
        tuned-first counts step pos between sums.interval (suc k) rows ends tuned.least (suc k) 0 1 other (omega arith) (omega arith)
        (reach-one counts step pos) above best_too.candidate.few (λ n counted over. best_too.candidate.serving n counted)
        (used-from_all counts step pos other above used_too)
        (omega (arith, sums.sum other best_too.candidate.legal, costs, best_too.least table candidate))

-- there is one canonical table
pub one_canonical : (cost : List ℕ → ℕ) (counts : List ℕ) (step limit : ℕ) (a b : List ℕ) → IsCanonicalBy cost counts step limit a
    → IsCanonicalBy cost counts step limit b → a ≡ b
one_canonical cost counts step limit a b of_a of_b = grind (arith, order-antisymmetric)

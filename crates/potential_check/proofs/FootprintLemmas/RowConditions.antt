-- The conditions on rows, one more row and one more place.
use Rattle.std.proofs.Common.{◌≡◌, ℕ, suc, ◌+◌, ◌-◌, ◌<◌, ◌≤◌, List, [], length, slice_index, slice_index_or, arith, ap, sym, ◌∙◌, ◌↔◌}
use Rattle.std.proofs.{Common.{IsTrue, inl, inr}, lemmas.Bool.{cases_lt}}
use Rattle.potential_check.specs.Footprints.RowConditions.{AreBoth, AreRowTests, AreTestsAt, AreTestsFrom, DropsHoldAt, DropsHoldFrom}
use Rattle.potential_check.specs.Footprints.RowConditions.{EdgesHoldAt, EdgesHoldFrom, LastHoldsFrom}
use Rattle.potential_check.specs.declared.measured_load.RowTests.{RowTests}
use Rattle.tuner_theory.specs.{Growing.{IsGrowing}, Rows.{number_at}}

-- ---- one row more

module _ (costs : List ℕ) (rows : List (List ℕ)) (d i k number : ℕ) (before : List ℕ) (one : 1 ≤ k)
    (read : before ≡ slice_index_or rows (k - 1) []) (is : number ≡ number_at rows (k + 1) i) (size : length before ≡ d) where
  next : (m : ℕ) → m ≡ k → number_at rows (suc m) i ≡ number
  next m e = let same : suc m ≡ k + 1 = omega (arith, e) in ap (λ n. number_at rows n i) same ∙ sym is

-- ---- one place more

module _ (A B C : Type 0) (a b c : Type 0) (old : a ↔ A) (new : b ↔ B) (both : c ↔ (a × b)) where
  pub one-more : (A → B → C) → (C → A) → (C → B) → c ↔ C
  one-more make left right = grind arith

drops-more : (d i : ℕ) (rows : List (List ℕ)) → DropsHoldFrom d rows (i + 1) → DropsHoldAt rows i (length rows) → DropsHoldFrom d rows i
drops-more d i rows old new = grind (arith, cases_lt)

edges-place : (cost : ℕ → ℕ → ℕ) (costs : List ℕ) (d i : ℕ) (rows : List (List ℕ))
    → ((j : ℕ) → i < j → j ≤ d → slice_index costs j ≡ cost i j) → EdgesHoldFrom cost d rows (i + 1)
    → EdgesHoldAt costs rows d i (length rows) → EdgesHoldFrom cost d rows i
edges-place cost costs d i rows are old new = record {
  each = λ m k j from one few mj le. elim (cases_lt i m) [
    | inl after ↦ old.each m k j (omega arith) one few mj le
    | inr not ↦ grind arith
  ];
}

module _ (cost : ℕ → ℕ → ℕ) (costs : List ℕ) (d i : ℕ) (rows : List (List ℕ)) (within : i < d)
    (are : (j : ℕ) → i < j → j ≤ d → slice_index costs j ≡ cost i j) (a b c : Type 0) where
  last-both : (a ↔ LastHoldsFrom cost d rows (i + 1)) → (b ↔ (number_at rows 1 i ≤ cost i d)) → (c ↔ (a × b))
      → c ↔ LastHoldsFrom cost d rows i
  last-both old new both = grind (arith, one-more, cases_lt)

  drops-both : (a ↔ DropsHoldFrom d rows (i + 1)) → (b ↔ DropsHoldAt rows i (length rows)) → (c ↔ (a × b)) → c ↔ DropsHoldFrom d rows i
  drops-both old new both = grind (arith, one-more, drops-more)

  edges-both : (a ↔ EdgesHoldFrom cost d rows (i + 1)) → (b ↔ EdgesHoldAt costs rows d i (length rows)) → (c ↔ (a × b))
      → c ↔ EdgesHoldFrom cost d rows i
  edges-both old new both =
      one-more _ _ _ a b c old new both (edges-place cost costs d i rows are)
      (λ h. record { each = λ m k j from one few mj le. h.each m k j (omega arith) one few mj le })
      (λ h. record { each = λ k j one few ij le. omega (arith, h.each i k j (omega arith) one few ij le, are j ij le) })

-- ---- the tests

pub tests-both : (cost : ℕ → ℕ → ℕ) (costs : List ℕ) (d i : ℕ) (rows : List (List ℕ)) (old at both : RowTests) → i < d
    → ((j : ℕ) → i < j → j ≤ d → slice_index costs j ≡ cost i j) → AreTestsFrom cost d rows (i + 1) old → AreTestsAt costs d rows i at
    → AreBoth old at both → AreTestsFrom cost d rows i both
tests-both cost costs d i rows old at both within are from here each = record {
  last_class = last-both cost costs d i rows within are _ _ _ from.last_class
      (rw (are d within (omega arith)) at here.last_class) each.last_class;
  stage_drop = drops-both cost costs d i rows within are _ _ _ from.stage_drop here.stage_drop each.stage_drop;
  edge = edges-both cost costs d i rows within are _ _ _ from.edge here.edge each.edge;
}

pub tests-at_end : (cost : ℕ → ℕ → ℕ) (d : ℕ) (rows : List (List ℕ)) (tests : RowTests) → IsTrue tests.last_class → IsTrue tests.stage_drop
    → IsTrue tests.edge → AreTestsFrom cost d rows d tests
tests-at_end cost d rows tests last drop edge = grind arith

pub tests-at_start : (cost : ℕ → ℕ → ℕ) (d i : ℕ) (rows : List (List ℕ)) (tests : RowTests) → i ≡ 0 → AreTestsFrom cost d rows i tests
    → AreRowTests cost d rows tests
tests-at_start cost d i rows tests all are = record {
  last_class = ((λ h m lt. (are.last_class.0 h).each m (omega arith) lt), (λ h. are.last_class.1 (record { each = λ m from lt. h m lt })));
  stage_drop = (
    (λ h k m one few lt. ((are.stage_drop.0 h).each m (omega arith) lt).each k one few),
    (λ h. are.stage_drop.1 (record { each = λ m from lt. record { each = λ k one few. h k m one few lt } })),
  );
  edge = (
    (λ h k m j one few lt le. (are.edge.0 h).each m k j (omega arith) one few lt le),
    (λ h. are.edge.1 (record { each = λ m k j from one few mj le. h k m j one few mj le })),
  );
}

-- ---- costs at a place and the next one

pub costs-grow : (cost : ℕ → ℕ → ℕ) (d i next : ℕ) (older from : List ℕ) → i + 1 ≡ next → IsGrowing cost d
    → ((j : ℕ) → next < j → j ≤ d → slice_index older j ≡ cost next j) → ((j : ℕ) → i < j → j ≤ d → slice_index from j ≡ cost i j)
    → (j : ℕ) → i + 1 < j → j ≤ d → slice_index older j ≤ slice_index from j
costs-grow cost d i next older from is grows old new j after le = grind (arith, next)

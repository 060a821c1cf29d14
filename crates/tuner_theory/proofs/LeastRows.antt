-- Least rows: their ends are after their places, and ascend where spans cross; their numbers are valid potentials, and there is one row of
-- them for each number of classes.
use Rattle.std.proofs.Common.{◌≡◌, ℕ, zero, suc, ◌+◌, ◌-◌, ◌<◌, ◌≤◌, List, [], length, slice_index_or, arith, ap, sym, ◌∙◌, inl, inr}
use Rattle.std.proofs.lemmas.{Bool.{cases_lt}, List.{ext_get_or}}
use Rattle.tuner_theory.specs.{Potentials.{AreValidPotentials}, Rows.{AreLaterEnds, AreLeastRows, HasShape, IsLeastEnd, number_at}}
use Rattle.tuner_theory.specs.Spans.{IsCrossing}

pub ends_ascend : (cost : ℕ → ℕ → ℕ) (before : ℕ → ℕ) (d i j e f : ℕ) → IsCrossing cost d → i ≤ j
    → IsLeastEnd (λ m. cost i m + before m) i d e → IsLeastEnd (λ m. cost j m + before m) j d f → e ≤ f
ends_ascend cost before d i j e f crossing ij le lf =
    elim (cases_lt f e) [
      | inr not ↦ not
      | inl back ↦ absurd (omega (
        arith,
        le.first f (omega (arith, lf.from)) back,
        lf.least e (omega (arith, lf.from)) le.to,
        crossing i j f e ij lf.from (omega arith) le.to,
      ))
    ]

module _ (cost : ℕ → ℕ → ℕ) (d limit : ℕ) (rows ends : ℕ → ℕ → ℕ) (least : AreLeastRows cost d limit rows ends) where
  pub ends_are_later : AreLaterEnds d limit ends
  ends_are_later zero i one le lt = absurd (omega arith)
  ends_are_later (suc zero) i one le lt = let row = least.first_row i (omega arith) lt in (omega (arith, row.1), omega (arith, row.1))
  ends_are_later (suc (suc k)) i one le lt = let row = least.later_row (suc k) i (omega arith) (omega arith) lt in (row.0.from, row.0.to)

  edge-least : (k i j : ℕ) → 1 ≤ k → k < limit → i < j → j ≤ d → rows (suc k) i ≤ cost i j + rows k j
  edge-least k i j one few lt le = grind arith

  -- a row is not above the one before it: its best end serves there too
  drop-least : (k i : ℕ) → suc k < limit → i < d → rows (suc (suc k)) i ≤ rows (suc k) i
  drop-least zero i few lt = grind (arith, edge-least)
  drop-least (suc k) i few lt =
      let row = least.later_row (suc k) i (omega arith) (omega arith) lt in
      let e = ends (suc (suc k)) i in
      let edge = edge-least (suc (suc k)) i e (omega arith) few row.0.from row.0.to in
      elim (cases_lt e d) [
        | inl inside ↦ omega (arith, row.1, edge, drop-least k e (omega arith) inside)
        | inr past ↦ (let end : e ≡ d = omega (arith, row.0.to) in
            omega (arith, row.1, edge, ap (rows (suc (suc k))) end, least.at_end (suc (suc k))))
      ]

  stage-drop : (k i : ℕ) → 1 ≤ k → k < limit → i < d → rows (suc k) i ≤ rows k i
  stage-drop zero i one few lt = absurd (omega arith)
  stage-drop (suc k) i one few lt = drop-least k i few lt

  pub least_rows_are_valid : AreValidPotentials cost d limit rows
  least_rows_are_valid = grind (arith, stage-drop, edge-least)

module _ (cost : ℕ → ℕ → ℕ) (d limit : ℕ) (rows ends rows' ends' : ℕ → ℕ → ℕ) (least : AreLeastRows cost d limit rows ends)
    (least' : AreLeastRows cost d limit rows' ends') where
  same-at : (k i : ℕ) → (i < d → rows k i ≡ rows' k i) → i ≤ d → rows k i ≡ rows' k i
  same-at k i same within = grind arith

  rows-one : (k i : ℕ) → k < limit → i ≤ d → rows (suc k) i ≡ rows' (suc k) i
  rows-one zero i few within = grind (arith, same-at)
  rows-one (suc k) i few within =
      grind (arith, rows-one k (ends (suc (suc k)) i) (omega arith), rows-one k (ends' (suc (suc k)) i) (omega arith), same-at)

-- ---- rows as lists: those of one shape are the same if their numbers are

pub rows-same : (a b : List (List ℕ)) (limit d : ℕ) → HasShape a limit d → HasShape b limit d
    → ((k i : ℕ) → 1 ≤ k → k ≤ limit → i < d → number_at a k i ≡ number_at b k i) → a ≡ b
rows-same a b limit d of_a of_b each =
    ext_get_or [] a b (of_a.row_count ∙ sym of_b.row_count) (λ k lt.
    let in_b : k < length b = omega (arith, of_a.row_count, of_b.row_count) in
    let len_a = of_a.row_lengths k [] lt in
    let len_b = of_b.row_lengths k [] in_b in
    ext_get_or 0 (slice_index_or a k []) (slice_index_or b k []) (len_a ∙ sym len_b)
    (λ i inside.
    let front : suc k - 1 ≡ k = omega arith in
    rw front at (each (suc k) i (omega arith) (omega (arith, of_a.row_count)) (omega (arith, len_a)))))

pub one_least_rows : (cost : ℕ → ℕ → ℕ) (d limit : ℕ) (a b : List (List ℕ)) (ends_a ends_b : ℕ → ℕ → ℕ) → HasShape a limit d
    → HasShape b limit d → AreLeastRows cost d limit (number_at a) ends_a → AreLeastRows cost d limit (number_at b) ends_b → a ≡ b
one_least_rows cost d limit a b ends_a ends_b shape_a shape_b of_a of_b = rows-same a b limit d shape_a shape_b numbers
  where
    numbers : (k i : ℕ) → 1 ≤ k → k ≤ limit → i < d → number_at a k i ≡ number_at b k i
    numbers zero i one few lt = absurd (omega arith)
    numbers (suc k) i one few lt = rows-one cost d limit (number_at a) ends_a (number_at b) ends_b of_a of_b k i few (omega arith)

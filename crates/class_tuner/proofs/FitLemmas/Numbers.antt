-- Rows of which one number is set.
use Rattle.std.proofs.Common.{◌≡◌, ◌≢◌, ℕ, suc, ◌-◌, ◌<◌, ◌≤◌, List, [], length, slice_index, slice_index_or, slice_set, arith, ap, ◌∙◌}
use Rattle.std.proofs.lemmas.{List.{get_or-set_other, get_or-set_same, length-set}, List.Elements.{All-from_get_or}}
use Rattle.tuner_theory.specs.Rows.{HasShape, number_at}

module _ (rows : List (List ℕ)) (limit d : ℕ) (shape : HasShape rows limit d) (k place v : ℕ) (lt : k < limit) (in_row : place < d) where
  abbrev after : List (List ℕ)
  after = slice_set rows k (slice_set (slice_index_or rows k []) place v)

  row-length : length (slice_index_or rows k []) ≡ d
  row-length = shape.row_lengths k [] (omega (arith, shape.row_count))

  row-at : (m : ℕ) → m ≡ k → slice_index_or after m [] ≡ slice_set (slice_index_or rows k []) place v
  row-at m e = grind (arith, slice_index_or, get_or-set_same, slice_set)

  row-other : (m : ℕ) → m ≢ k → slice_index_or after m [] ≡ slice_index_or rows m []
  row-other m ne = get_or-set_other rows k m (slice_set (slice_index_or rows k []) place v) [] ne

  pub set-here : number_at after (suc k) place ≡ v
  set-here = grind (arith, slice_index, get_or-set_same, slice_index_or)

  pub set-other_row : (m j : ℕ) → m - 1 ≢ k → number_at after m j ≡ number_at rows m j
  set-other_row m j ne = ap (λ (r : List ℕ). slice_index r j) (row-other (m - 1) ne)

  pub set-other_place : (m j : ℕ) → j ≢ place → number_at after m j ≡ number_at rows m j
  set-other_place m j ne = grind (arith, row-at (m - 1), row-other (m - 1), get_or-set_other)

  pub set-small : (bound : ℕ) → v ≤ bound → ((m j : ℕ) → number_at rows m j ≤ bound) → (m j : ℕ) → number_at after m j ≤ bound
  set-small bound le small m j = grind (arith, row-at, row-other, row-length, get_or-set_same, get_or-set_other)

  pub set-shape : HasShape after limit d
  set-shape = record {
    row_count = length-set rows k (slice_set (slice_index_or rows k []) place v) ∙ shape.row_count;
    row_lengths = All-from_get_or (λ (r : List ℕ). length r ≡ d) after []
        (λ m within. grind (arith, row-at m, row-other m, row-length, length-set, shape.row_lengths m []));
  }

-- Rows of least costs, one after another.
use Rattle.std.proofs.Common.{◌≡◌, ℕ, zero, suc, ◌-◌, ◌<◌, ◌≤◌, List, [], ◌∷◌, ◌++◌, length, slice_index, arith, ap, subst, ◌∙◌}
use Rattle.std.proofs.{Common.{Vec, slice_index_or}, lemmas.Grind.{common_steps}}
use Rattle.std.{proofs.lemmas.List.{get_or_append_left, get_or_past}, specs.declared.alloc.Global.{Global}}
use Rattle.class_tuner.specs.{Filling.{IsFilledWithin, IsFirstRow, IsLeastAt, IsNextRow}, declared.row_filling.Row.{Row}}
use Rattle.tuner_theory.{proofs.Lists.{lists-length, row-read_at}, proofs.Sheets.{rows-end}, specs.Lists.{lists_of}}
use Rattle.tuner_theory.specs.Rows.{HasShape, IsFilled, number_at}

-- ---- numbers in rows

pub number_at-old : (rows : List (List ℕ)) (row : List ℕ) (k i : ℕ) → 1 ≤ k → k ≤ length rows
    → number_at (rows ++ row ∷ []) k i ≡ number_at rows k i
number_at-old rows row k i one le = ap (λ (r : List ℕ). slice_index r i) (get_or_append_left rows (row ∷ []) [] (k - 1) (omega arith))

pub number_at-new : (rows : List (List ℕ)) (row : List ℕ) (k i : ℕ) → length rows ≡ k
    → number_at (rows ++ row ∷ []) (suc k) i ≡ slice_index row i
number_at-new rows row k i size = grind (arith, common_steps)

pub shape-pushed : (rows : List (List ℕ)) (row : List ℕ) (k d : ℕ) → HasShape rows k d → length row ≡ d → HasShape (rows ++ row ∷ []) (suc k) d
shape-pushed rows row k d shape len = grind (arith, common_steps)

-- ---- one row

-- a row and its ends, by their lists
module _ (cost : ℕ → ℕ → ℕ) (d : ℕ) where
  pub row-first : (row : Row) (costs ends : List ℕ) → row.costs.items ≡ costs → row.ends.items ≡ ends → length costs ≡ d → length ends ≡ d
      → ((i : ℕ) → i < d → slice_index costs i ≡ cost i d) → ((i : ℕ) → i < d → slice_index ends i ≡ d) → IsFirstRow cost d row
  row-first row costs ends costs_are ends_are costs_size ends_size are last = grind arith

  pub row-next : (before : List ℕ) (row : Row) (costs ends : List ℕ) → row.costs.items ≡ costs → row.ends.items ≡ ends
      → length costs ≡ d → length ends ≡ d → IsFilledWithin cost d before costs ends 0 d → IsNextRow cost d before row
  row-next before row costs ends costs_are ends_are costs_size ends_size filled = grind arith

-- ---- rows

pub filled-first : (cost : ℕ → ℕ → ℕ) (d : ℕ) (row ends : List ℕ) → length row ≡ d → length ends ≡ d
    → ((i : ℕ) → i < d → slice_index row i ≡ cost i d) → ((i : ℕ) → i < d → slice_index ends i ≡ d)
    → IsFilled cost d 1 (row ∷ []) (ends ∷ [])
filled-first cost d row ends row_len ends_len row_is ends_is = grind (arith, common_steps)

filled-more : (cost : ℕ → ℕ → ℕ) (d k : ℕ) (rows ends : List (List ℕ)) (row end : List ℕ) → 1 ≤ k → IsFilled cost d k rows ends
    → length row ≡ d → length end ≡ d → IsFilledWithin cost d (slice_index_or rows (k - 1) []) row end 0 d
    → IsFilled cost d (suc k) (rows ++ row ∷ []) (ends ++ end ∷ [])
filled-more cost d k rows ends row end one f row_len end_len within = record {
  rows_shape = shape-pushed rows row k d f.rows_shape row_len;
  ends_shape = shape-pushed ends end k d f.ends_shape end_len;
  least = record {
    at_end = rows-end (rows ++ row ∷ []) (suc k) d (shape-pushed rows row k d f.rows_shape row_len);
    first_row = λ i some lt.
        let old = f.least.first_row i one lt in (
          number_at-old rows row 1 i (omega arith) (omega (arith, f.rows_shape.row_count)) ∙ old.0,
          number_at-old ends end 1 i (omega arith) (omega (arith, f.ends_shape.row_count)) ∙ old.1,
        );
    later_row = λ m i some few lt. let l = later m i some few lt in (l.least, l.number_is);
  };
}
  where
    later : (m i : ℕ) → 1 ≤ m → m < suc k → i < d
        → IsLeastAt cost d (number_at (rows ++ row ∷ []) m) i (number_at (rows ++ row ∷ []) (suc m) i)
        (number_at (ends ++ end ∷ []) (suc m) i)
    later m i some few lt =
        let before : (j : ℕ) → number_at (rows ++ row ∷ []) m j ≡ number_at rows m j =
        (λ j. number_at-old rows row m j some (omega (arith, f.rows_shape.row_count))) in
        grind (arith, number_at-old, number_at-new)

-- no number is above the largest cost of a span to the last place
pub filled-small : (cost : ℕ → ℕ → ℕ) (d limit bound : ℕ) (rows ends : List (List ℕ)) → IsFilled cost d limit rows ends
    → ((i : ℕ) → i < d → cost i d ≤ bound) → (k j : ℕ) → 1 ≤ k → k ≤ limit → number_at rows k j ≤ bound
filled-small cost d limit bound rows ends f small k j one le =
    grind (arith, at, get_or_past)
  where
    at : (k : ℕ) → 1 ≤ k → k ≤ limit → j < d → number_at rows k j ≤ bound
    at zero one le lt = absurd (omega arith)
    at (suc zero) one le lt = omega (arith, (f.least.first_row j (omega arith) lt).0, small j lt)
    at (suc (suc k)) one le lt = grind arith

-- ---- rows in vectors

module _ (rows : List (Vec ℕ Global)) (d limit : ℕ) (shape : HasShape (lists_of rows) limit d) where
  pub has-row : (k : ℕ) → k < limit → k < length rows
  has-row k lt = omega (arith, lists-length rows, shape.row_count)

  pub has-place : (k place : ℕ) → k < limit → place < d → place < length (slice_index_or (lists_of rows) k [])
  has-place k place lt inside = omega (arith, shape.row_lengths k [] (omega (arith, shape.row_count)))

-- a row that was read, by its vector
pub row-read : (cost : ℕ → ℕ → ℕ) (d limit k : ℕ) (rows : List (Vec ℕ Global)) (ends : List (List ℕ)) (v : Vec ℕ Global) (row : List ℕ) →
    k < limit
    → IsFilled cost d limit (lists_of rows) ends → v ≡ slice_index_or rows k v → row ≡ v.items → row ≡ slice_index_or (lists_of rows) k []
row-read cost d limit k rows ends v row lt f at is = row-read_at rows k v row (omega (arith, f.rows_shape.row_count)) at is

pub filled-pushed : (cost : ℕ → ℕ → ℕ) (d k : ℕ) (rows ends rows' ends' : List (List ℕ)) (row end before : List ℕ) → 1 ≤ k
    → IsFilled cost d k rows ends → length row ≡ d → length end ≡ d
    → before ≡ slice_index_or rows (k - 1) [] → IsFilledWithin cost d before row end 0 d
    → rows' ≡ rows ++ row ∷ [] → ends' ≡ ends ++ end ∷ [] → IsFilled cost d (suc k) rows' ends'
filled-pushed cost d k rows ends rows' ends' row end before one f row_len end_len at within rows_are ends_are =
    rw (rows_are, ends_are)
    (filled-more cost d k rows ends row end one f row_len end_len (subst (λ (b : List ℕ). IsFilledWithin cost d b row end 0 d) at within))

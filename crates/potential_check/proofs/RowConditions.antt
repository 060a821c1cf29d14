-- What is looked at row by row is what a sheet has to meet, and what it meets is the verdict.
use Rattle.std.proofs.Common.{◌≡◌, ℕ, zero, suc, ◌+◌, ◌-◌, ◌<◌, ◌≤◌, ◌^◌, List, length, slice_index, Some, arith, ap, inl, inr, sym, ◌∙◌}
use Rattle.std.proofs.{Common.{◌↔◌, All, slice_get, slice_index_or}, lemmas.Bool.{cases_lt}, lemmas.List.{get_or_default, get_or_past}}
use Rattle.std.proofs.lemmas.{List.Sorted.{all_adjacent_more}, Option.{get_or_from_slice_get, slice_get_within}}
use Rattle.std.specs.List.{AllAdjacentBelow}
use Rattle.potential_check.specs.{Certificates.Spanned.{IsSpanned, Spanned}, RowConditions.{EdgesHold, IsBoundedRow, StageDropHolds}}
use Rattle.tuner_theory.{proofs.LawLemmas.{spans_fit}, specs.Rows.{number_at}, specs.Sheets.{Meets, Sheet}}
use Rattle.tuner_theory.specs.{Spans.{places, span_waste}, declared.verdict.Refusal.TheVariants.{Shape, LastClass, StageDrop, Edge}}

-- row k, counted from 1, is the one at m, counted from 0
number-is : (rows : List (List ℕ)) (k m i : ℕ) (d : List ℕ) → k ≡ m + 1 → m < length rows →
    number_at rows k i ≡ slice_index (slice_index_or rows m d) i
number-is rows k m i d e lt = grind (arith, slice_index, get_or_default)

-- a row and the one before it, which are looked at together
module _ (R : List ℕ → List ℕ → Type 0) (rows : List (List ℕ)) (i : ℕ) (before row : List ℕ) (some : 0 < i)
    (before-is : slice_get rows (i - 1) ≡ Some before) (row-is : slice_get rows i ≡ Some row) where
  pub adjacent : AllAdjacentBelow R rows (length rows) → R before row
  adjacent all =
      let next : i - 1 + 1 ≡ i = omega arith in
      let within = slice_get_within rows i row row-is in
      rw (next, get_or_from_slice_get rows (i - 1) before row before-is, get_or_from_slice_get rows i row row row-is)
      at (all (i - 1) row (omega (arith, within)))

  pub adjacent-more : AllAdjacentBelow R rows i → R before row → AllAdjacentBelow R rows (i + 1)
  adjacent-more all holds = grind (arith, all_adjacent_more, get_or_from_slice_get)

module _ (s : Sheet) (spans : Spanned) (same : spans.step ≡ s.step) (shape : Meets spans.counts s Shape) where
  meet-drops : Meets spans.counts s StageDrop → AllAdjacentBelow StageDropHolds s.rows (length s.rows)
  meet-drops meets m d next = record {
    each = λ i lt. grind (arith, meets (m + 1) i, shape.row_count, shape.row_lengths (m + 1) d next, number-is);
  }

  pub drops-met : AllAdjacentBelow StageDropHolds s.rows (length s.rows) ↔ Meets spans.counts s StageDrop
  drops-met = grind (arith, meet-drops)

  waste-is : (i j : ℕ) → span_waste spans.counts spans.step i j ≡ span_waste spans.counts s.step i j
  waste-is i j = ap (λ step. span_waste spans.counts step i j) same

  places-are : places spans.counts spans.step ≡ places spans.counts s.step
  places-are = ap (places spans.counts) same

  meet-edges : Meets spans.counts s Edge → AllAdjacentBelow (EdgesHold spans) s.rows (length s.rows)
  meet-edges meets m d next = record {
    each = λ i j lt later le. grind (arith, meets (m + 1) i j, shape.row_count, places-are, waste-is i j, number-is);
  }

  pub edges-met : AllAdjacentBelow (EdgesHold spans) s.rows (length s.rows) ↔ Meets spans.counts s Edge
  edges-met = grind (arith, meet-edges)

  -- where no number of the first row is above the waste of one class, and no later one above that of the row before, all are bounded
  number-bounded : IsSpanned spans → Meets spans.counts s LastClass → Meets spans.counts s StageDrop → (m i : ℕ) → m < length s.rows
      → i < places spans.counts s.step → number_at s.rows (suc m) i ≤ 2 ^ 58
  number-bounded spanned last drop zero i some within = grind (arith, spans_fit)
  number-bounded spanned last drop (suc m) i some within = grind (arith, spans_fit, number-bounded spanned last drop m i (omega arith) within)

  pub rows-bounded : Meets spans.counts s LastClass → Meets spans.counts s StageDrop → All (IsBoundedRow spans) s.rows
  rows-bounded last drop m d lt =
      let full : length (slice_index_or s.rows m d) ≡ places spans.counts spans.step = shape.row_lengths m d lt ∙ sym places-are in
      record {
        full = full;
        bounded = λ spanned i. elim (cases_lt i (length (slice_index_or s.rows m d))) [
          | inl within ↦ omega (
            arith,
            number-bounded spanned last drop m i lt (omega (arith, shape.row_lengths m d lt)),
            number-is s.rows (suc m) m i d (omega arith) lt,
          )
          | inr past ↦ omega (arith, get_or_past (slice_index_or s.rows m d) i 0 past)
        ];
      }

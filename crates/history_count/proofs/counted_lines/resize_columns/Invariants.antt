use Rattle.std.proofs.Common.{◌≡◌, ℕ, ◌<◌, ◌≤◌, [], All, length, slice_index_or}
use Rattle.tuner_theory.specs.Lists.{lists_of}
use Rattle.history_count.specs.CountedLines.{first_counts}
use Rattle.history_count.proofs.counted_lines.resize_columns.Given as goal

abbrev pub invariant-loop-t : goal.invariant-loop-t
invariant-loop-t l = record {
  size : length l.columns.items ≡ length l.fn.columns.items;
  wide : (k : ℕ) → k < l.t → length (slice_index_or (lists_of l.columns.items) k []) ≡ l.room;
  others : (k : ℕ) → l.t ≤ k → slice_index_or (lists_of l.columns.items) k [] ≡ slice_index_or (lists_of l.fn.columns.items) k [];
  kept : (n : ℕ) → n ≤ l.room → All (λ column. n ≤ length column) (lists_of l.fn.columns.items)
      → first_counts n (lists_of l.columns.items) ≡ first_counts n (lists_of l.fn.columns.items);
}

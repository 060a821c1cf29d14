-- The lines of the sizes, of which only counted ones have one.
use Rattle.std.proofs.Common.{◌≡◌, ℕ, zero, suc, ◌+◌, ◌-◌, ◌<◌, ◌≤◌, Bool, true, false, List, [], ◌∷◌, length, refl, sym, ap, ◌∙◌}
use Rattle.std.{proofs.Common.{arith}, specs.Fmt.{decimal}}
use Rattle.class_table.specs.{NamedLines.{named_line}, Sizes.{largest_counted}}
use Rattle.profile_count.specs.Counts.{zeros}
use Rattle.history_count.specs.{Histories.{counts_of}, HistoryText.{counts_lines, is_some_counted, size_lines}}

-- ---- counts that are all 0

pub zeros-none : (n : ℕ) → is_some_counted (zeros n) ≡ false
unfolding zeros
zeros-none zero = refl
zeros-none (suc n) = zeros-none n

pub none-zeros : (counts : List ℕ) → is_some_counted counts ≡ false → counts ≡ zeros (length counts)
unfolding zeros
none-zeros [] none = refl
none-zeros (c ∷ cs) none = grind (arith, none-zeros cs)

-- Two such lists of one length are the same.
pub same_nothing : (one other : List ℕ) → length one ≡ length other → is_some_counted one ≡ false → is_some_counted other ≡ false
    → one ≡ other
same_nothing one other size none none_too = none-zeros one none ∙ rw size (zeros-other other none_too)
  where
    zeros-other : (counts : List ℕ) → is_some_counted counts ≡ false → zeros (length counts) ≡ counts
    zeros-other counts is = sym (none-zeros counts is)

-- ---- the lines

pub counts_lines-none : (first counts : List ℕ) → is_some_counted counts ≡ false → counts_lines first counts ≡ []
counts_lines-none first counts none = rw none refl

pub counts_lines-some : (first counts : List ℕ) → is_some_counted counts ≡ true → counts_lines first counts ≡ named_line first counts ∷ []
counts_lines-some first counts some = rw some refl

module _ (snapshots : List (List ℕ)) where
  abbrev pub IsCountedAt : ℕ → Bool → Type 0
  IsCountedAt size counted = is_some_counted (counts_of snapshots size) ≡ counted

  -- a size that is not counted has no line,
  pub size_lines-zero : (size more : ℕ) → IsCountedAt size false
      → size_lines snapshots size (suc more) ≡ size_lines snapshots (suc size) more
  unfolding size_lines
  size_lines-zero size more none = rw (counts_lines-none (decimal size) (counts_of snapshots size) none) refl

  -- and one that is has the first;
  pub size_lines-counted : (size more : ℕ) → IsCountedAt size true
      → size_lines snapshots size (suc more) ≡ named_line (decimal size) (counts_of snapshots size) ∷ size_lines snapshots (suc size) more
  unfolding size_lines
  size_lines-counted size more some = rw (counts_lines-some (decimal size) (counts_of snapshots size) some) refl

  -- where nothing is counted, there is no line.
  pub size_lines-none : (size more : ℕ) → ((k : ℕ) → size ≤ k → IsCountedAt k false) → size_lines snapshots size more ≡ []
  unfolding size_lines
  size_lines-none size zero none = refl
  size_lines-none size (suc more) none = grind (arith, size_lines-none (suc size) more (λ k from. none k (omega arith)))

  -- the lines from a size on
  abbrev pub size_lines_from : ℕ → List (List ℕ)
  size_lines_from size = size_lines snapshots size (largest_counted + 1 - size)

  passed : (size n : ℕ) → size + n ≤ largest_counted + 1 → ((k : ℕ) → size ≤ k → k < size + n → IsCountedAt k false)
      → size_lines_from size ≡ size_lines_from (size + n)
  passed size zero within none = ap size_lines_from (omega arith)
  passed size (suc n) within none =
      let more : largest_counted + 1 - size ≡ suc (largest_counted + 1 - suc size) = omega arith in
      let next : suc size + n ≡ size + suc n = omega arith in
      ap (size_lines snapshots size) more
      ∙ size_lines-zero size (largest_counted + 1 - suc size) (none size (omega arith) (omega arith))
      ∙ passed (suc size) n (omega arith) (λ k from below. none k (omega arith) (omega arith))
      ∙ ap size_lines_from next

  -- Sizes that are not counted are passed by.
  pub size_lines-passed : (low high : ℕ) → low ≤ high → high ≤ largest_counted + 1
      → ((k : ℕ) → low ≤ k → k < high → IsCountedAt k false) → size_lines_from low ≡ size_lines_from high
  size_lines-passed low high order within none =
      let is : low + (high - low) ≡ high = omega arith in
      passed low (high - low) (omega arith) (λ k from below. none k from (omega arith)) ∙ ap size_lines_from is

-- What a table takes, a class at a time: each class serves the sizes from where the one before it ends.
use Rattle.std.proofs.Common.{◌≡◌, ℕ, zero, suc, ◌+◌, ◌-◌, ◌*◌, ◌^◌, ◌<◌, ◌≤◌, ◌&&◌, false, List, [], ◌∷◌, length, get_or, drop, cond, leb}
use Rattle.std.proofs.{Common.{ltb, refl, ◌∙◌, arith, add-one, All, slice_index}, Math.Seq.{drop-cons}}
use Rattle.std.proofs.lemmas.{Bool.{le-leb, le-ltb, lt-leb, lt-ltb}, List.{drop_all}, List.Elements.{All-head, All-tail}}
use Rattle.class_table.specs.{Sizes.{largest_counted}, Tables.{IsLegalTable}, declared.sizes.TheConstants.{LARGEST_CLASS}}
use Rattle.profile_count.proofs.LawLemmas.{sum_up_to_the_rest}
use Rattle.tuner_theory.proofs.{Footprint.{footprint_is_sum}, Rounding.{rounded-positive}, Sums.{sum_below-more, sum_none}}
use Rattle.tuner_theory.specs.{Footprint.{blocks_between, footprint_between, footprint_of}, Histories.{AreSnapshots, most}}
use Rattle.tuner_theory.specs.{Intervals.{cost_above}, Profiles.{AreCounts, greatest_count}, Spans.{rounded_need}, Waste.{sum_below}}
use Rattle.history_count.{proofs.CutLines.{most-lines, most-small}, specs.CountedLines.{AreSizes, IsCutAt, spread}}
use Rattle.history_count.specs.Histories.{blocks_from}

-- ---- where the sizes that need more granules begin

-- The sizes from this one on need more granules than that.
pub record IsCut (low from : ℕ) : Type 0 where
  pub below : (n : ℕ) → n < from → rounded_need 1 n ≤ low
  pub above : (n : ℕ) → from ≤ n → low < rounded_need 1 n

pub cut-none : IsCut 1 0
cut-none = record { below = λ n lt. absurd (omega arith); above = λ n le. rounded-positive 1 (omega arith) n }

pub cut-class : (class : ℕ) → 2 ≤ class → IsCut class (16 * class - 15)
cut-class class two = grind arith

-- ---- the blocks of an interval

-- a sum over a window
window : (f g : ℕ → ℕ) (from end : ℕ) → from ≤ end → ((n : ℕ) → n < from → f n ≡ 0) → ((n : ℕ) → from ≤ n → n < end → f n ≡ g n)
    → sum_below g from + sum_below f end ≡ sum_below g end
window f g from zero le none same = grind (arith, sum_none f 0)
window f g from (suc end) le none same = grind (arith, sum_below-more, sum_none f (suc end), window f g from end)

pub blocks-cut : (low high from end : ℕ) (s : List ℕ) → IsCut low from → IsCut high end → from ≤ end → end ≤ length s
    → blocks_between 1 low high s ≡ blocks_from from end s
blocks-cut low high from end s is also le within =
    let f = λ (n : ℕ). cond (ltb low (rounded_need 1 n) && leb (rounded_need 1 n) high) (slice_index s n) 0 in
    omega (
      arith,
      sum_up_to_the_rest f end (length s) within (λ n past. grind (arith, also.above n, lt-leb)),
      window f (slice_index s) from end le (λ n lt. grind (arith, is.below n, le-ltb))
          (λ n from lt. grind (arith, is.above n, also.below n, lt-ltb, le-leb)),
    )

pub most-same : (f g : List ℕ → ℕ) (snapshots : List (List ℕ)) → All AreCounts snapshots → ((s : List ℕ) → AreCounts s → f s ≡ g s)
    → most f snapshots ≡ most g snapshots
most-same f g [] are each = refl
most-same f g (s ∷ ss) are each = grind (arith, most-same f g ss (All-tail AreCounts s ss are) each, All-head)

-- ---- class by class

pub record TakenSoFar (snapshots : List (List ℕ)) (table : List ℕ) (number from total : ℕ) : Type 0 where
  pub low : ℕ
  pub cut : IsCut low from
  pub summed : footprint_of snapshots table ≡ total + cost_above (footprint_between snapshots 1) low (drop number table)
  pub small : total ≤ 16 * LARGEST_CLASS * greatest_count * from
  pub inside : from ≤ largest_counted + 1
  pub before : number < length table → low < get_or table number 0

module _ (snapshots : List (List ℕ)) (table : List ℕ) (are : AreSnapshots snapshots) (legal : IsLegalTable 1 table) where
  pub taken-none : TakenSoFar snapshots table 0 0 0
  taken-none = record {
    low = 1;
    cut = cut-none;
    summed = omega (arith, (footprint_is_sum false snapshots 1 (omega arith) are).sum table legal);
    small = omega arith;
    inside = omega arith;
    before = λ within. omega (arith, (legal.in_range 0 0 within).0);
  }

  module _ (number from total class : ℕ) (so_far : TakenSoFar snapshots table number from total) (within : number < length table)
      (is : get_or table number 0 ≡ class) where
    narrow : class ≤ LARGEST_CLASS
    narrow = omega (arith, is, (legal.in_range number 0 within).1)

    pub taken-order : from ≤ 16 * class - 15
    taken-order = grind arith

    pub taken-end : 16 * class - 15 ≤ largest_counted + 1
    taken-end = omega (arith, narrow)

    pub taken-small : (bytes blocks : ℕ) → bytes ≤ 16 * class → blocks ≤ greatest_count * (16 * class - 15 - from)
        → total + bytes * blocks ≤ 16 * LARGEST_CLASS * greatest_count * (16 * class - 15)
    taken-small bytes blocks few less =
        let wide_bytes : bytes ≤ 16 * LARGEST_CLASS = omega (arith, few, narrow) in
        grind (arith, taken-order)

    pub taken-more : (bytes blocks : ℕ) → bytes ≡ 16 * class → blocks ≡ most (blocks_from from (16 * class - 15)) snapshots
        → blocks ≤ greatest_count * (16 * class - 15 - from)
        → TakenSoFar snapshots table (number + 1) (16 * class - 15) (total + bytes * blocks)
    taken-more bytes blocks of_class are_most less = record {
      low = class;
      cut = omega arith;
      summed =
          let parts : drop number table ≡ class ∷ drop (number + 1) table = rw (add-one, drop-cons table number 0 within, is) refl in
          grind (arith, most-same, blocks-cut, taken-order);
      small = taken-small bytes blocks (omega (arith, of_class)) less;
      inside = taken-end;
      before = λ more. omega (arith, is, legal.ascending number more);
    }

  pub taken-all : (number from total : ℕ) → TakenSoFar snapshots table number from total → length table ≤ number
      → total ≡ footprint_of snapshots table
  taken-all number from total so_far all = grind (arith, drop_all)

-- ---- the same by the lines of the sizes

-- What the first classes take, where the lines up to this one are those of their sizes.
pub record TakenByLines (sizes : List ℕ) (columns : List (List ℕ)) (table : List ℕ) (number line total : ℕ) : Type 0 where
  pub from : ℕ
  pub cut : IsCutAt sizes line from
  pub taken : TakenSoFar (spread sizes columns) table number from total

module _ (sizes : List ℕ) (columns : List (List ℕ)) (table : List ℕ) (sizes_are : AreSizes sizes)
    (long : All (λ column. length column ≡ length sizes) columns) (are : AreSnapshots (spread sizes columns)) (legal : IsLegalTable 1 table) where
  pub by_lines-none : TakenByLines sizes columns table 0 0 0
  by_lines-none = grind (arith, taken-none)

  module _ (number line total class : ℕ) (so_far : TakenByLines sizes columns table number line total) (within : number < length table)
      (is : get_or table number 0 ≡ class) where
    order : so_far.from ≤ 16 * class - 15
    order = taken-order (spread sizes columns) table are legal number so_far.from total class so_far.taken within is

    module _ (next : ℕ) (cut : IsCutAt sizes next (16 * class - 15)) where
      same : most (blocks_from line next) columns ≡ most (blocks_from so_far.from (16 * class - 15)) (spread sizes columns)
      same = most-lines sizes columns line next so_far.from (16 * class - 15) sizes_are long so_far.cut cut

      small : (blocks : ℕ) → blocks ≡ most (blocks_from line next) columns → blocks ≤ greatest_count * (16 * class - 15 - so_far.from)
      small blocks are_most = grind (arith, same, most-small, order)

      pub by_lines-small : (bytes blocks : ℕ) → bytes ≤ 16 * class → blocks ≡ most (blocks_from line next) columns
          → total + bytes * blocks ≤ 16 * LARGEST_CLASS * greatest_count * (16 * class - 15)
      by_lines-small bytes blocks few are_most =
          taken-small (spread sizes columns) table are legal number so_far.from total class so_far.taken within is bytes blocks few
          (small blocks are_most)

      pub by_lines-more : (bytes blocks : ℕ) → bytes ≡ 16 * class → blocks ≡ most (blocks_from line next) columns
          → TakenByLines sizes columns table (number + 1) next (total + bytes * blocks)
      by_lines-more bytes blocks of_class are_most = record {
        from = 16 * class - 15;
        cut = cut;
        taken = taken-more (spread sizes columns) table are legal number so_far.from total class so_far.taken within is bytes blocks of_class
            (are_most ∙ same) (small blocks are_most);
      }

  pub by_lines-all : (number line total : ℕ) → TakenByLines sizes columns table number line total → length table ≤ number
      → (total ≡ footprint_of (spread sizes columns) table) × (total < 2 ^ 58)
  by_lines-all number line total so_far all =
      (taken-all (spread sizes columns) table are legal number so_far.from total so_far.taken all, omega (arith, so_far.taken.small, so_far.taken.inside))

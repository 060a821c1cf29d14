-- What a table takes over a history, class by class, while the history's lines come.
use Rattle.std.proofs.Common.{◌≡◌, ℕ, zero, suc, ◌+◌, ◌*◌, ◌^◌, ◌<◌, ◌≤◌, ◌++◌, List, [], ◌∷◌, length, get_or, set, take, map, replicate}
use Rattle.std.proofs.Common.{All, slice_index, refl, sym, ap, ◌∙◌, arith}
use Rattle.std.proofs.{Math.Seq.{take-suc}, lemmas.List.{get_or-set_other, get_or-set_same}}
use Rattle.std.proofs.lemmas.List.Elements.{All-cons, All-head, All-nil, All-tail}
use Rattle.class_table.specs.{Sizes.{largest_counted}, Tables.{IsLegalTable}}
use Rattle.profile_count.{proofs.LawLemmas.{each_is_zero, length-zeros, sum_up_to_the_rest}, specs.Counts.{nothing_counted as no_requests, with_count, zeros}}
use Rattle.tuner_theory.{proofs.Sums.{sum_below-more, sum_same}, specs.Footprint.{footprint_of}, specs.Histories.{AreSnapshots, most}}
use Rattle.tuner_theory.specs.{Profiles.{AreCounts, Profile, greatest_count}, Waste.{sum_below}}
use Rattle.tuner_theory.specs.declared.most_snapshots.TheConstants.{MOST_SNAPSHOTS}
use Rattle.history_count.proofs.{ClassByClass.{TakenSoFar, taken-all, taken-more, taken-none, taken-order}, CutLines.{most-small}}
use Rattle.history_count.proofs.{Columns.{with_counts-counts, with_counts-length}, Peaks.{empty-are, empty-length, peaks-empty, peaks-set}}
use Rattle.history_count.specs.ClassSums.{HoldsSums, IsUncountedFrom, bytes_of, end_of, end_of_class, sum_of_rows}
use Rattle.history_count.specs.Histories.{blocks_from, empty_snapshots, greatest_of, peak_profile, with_counts}

-- ---- one class more

end_of-more : (from class : ℕ) (classes : List ℕ) → end_of from (classes ++ class ∷ []) ≡ end_of_class class
end_of-more from class [] = refl
end_of-more from class (c ∷ cs) = end_of-more (end_of_class c) class cs

bytes_of-more : (snapshots : List (List ℕ)) (from class : ℕ) (classes : List ℕ) → bytes_of from (classes ++ class ∷ []) snapshots
    ≡ bytes_of from classes snapshots + 16 * class * most (blocks_from (end_of from classes) (end_of_class class)) snapshots
bytes_of-more snapshots from class [] = omega arith
bytes_of-more snapshots from class (c ∷ cs) = omega (arith, bytes_of-more snapshots (end_of_class c) class cs)

-- The first classes of a table, and what they take.
module _ (table : List ℕ) (number : ℕ) (within : number < length table) where
  more : take (suc number) table ≡ take number table ++ get_or table number 0 ∷ []
  more = take-suc table number 0 within

  pub end_of-next : end_of 0 (take (suc number) table) ≡ end_of_class (get_or table number 0)
  end_of-next = ap (end_of 0) more ∙ end_of-more 0 (get_or table number 0) (take number table)

  pub bytes_of-next : (snapshots : List (List ℕ)) → bytes_of 0 (take (suc number) table) snapshots
      ≡ bytes_of 0 (take number table) snapshots
      + 16 * get_or table number 0 * most (blocks_from (end_of 0 (take number table)) (end_of_class (get_or table number 0))) snapshots
  bytes_of-next snapshots = grind (arith, more, bytes_of-more)

module _ (snapshots : List (List ℕ)) (table : List ℕ) (are : AreSnapshots snapshots) (legal : IsLegalTable 1 table) where
  pub taken-first : (number : ℕ) → number ≤ length table
      → TakenSoFar snapshots table number (end_of 0 (take number table)) (bytes_of 0 (take number table) snapshots)
  taken-first zero within = taken-none snapshots table are legal
  taken-first (suc number) within =
      let so_far = taken-first number (omega arith) in
      let from = end_of 0 (take number table) in
      let class = get_or table number 0 in
      let total = bytes_of 0 (take number table) snapshots in
      let order : from ≤ end_of_class class = taken-order snapshots table are legal number from total class so_far within refl in
      let blocks = most (blocks_from from (end_of_class class)) snapshots in
      let next = taken-more snapshots table are legal number from total class so_far within refl (16 * class) blocks refl refl
      (most-small snapshots from (end_of_class class) are.counts order) in
      rw (end_of-next table number within, bytes_of-next table number within snapshots, suc-is number) next
    where
      suc-is : (n : ℕ) → suc n ≡ n + 1
      suc-is n = omega arith

  pub first-order : (number : ℕ) → (lt : number < length table)
      → end_of 0 (take number table) ≤ end_of_class (get_or table number 0)
  first-order number within =
      taken-order snapshots table are legal number (end_of 0 (take number table)) (bytes_of 0 (take number table) snapshots)
      (get_or table number 0) (taken-first number (omega (arith, within))) within refl

-- ---- sizes that are not counted

-- the blocks up to a size are those up to any later one, where none is counted in between
blocks-later : (s : List ℕ) (from next size : ℕ) → next ≤ size → ((n : ℕ) → next ≤ n → slice_index s n ≡ 0)
    → blocks_from from size s ≡ blocks_from from next s
blocks-later s from next size le none = grind (arith, sum_up_to_the_rest)

rows-later : (snapshots : List (List ℕ)) (from next size : ℕ) → next ≤ size → IsUncountedFrom next snapshots
    → map (blocks_from from size) snapshots ≡ map (blocks_from from next) snapshots
rows-later [] from next size le none = refl
rows-later (s ∷ ss) from next size le none =
    rw (
      blocks-later s from next size le (All-head (λ s. (n : ℕ) → next ≤ n → slice_index s n ≡ 0) s ss none),
      rows-later ss from next size le (All-tail (λ s. (n : ℕ) → next ≤ n → slice_index s n ≡ 0) s ss none),
    ) refl

uncounted-later : (snapshots : List (List ℕ)) (next size : ℕ) → next ≤ size → IsUncountedFrom next snapshots → IsUncountedFrom size snapshots
uncounted-later snapshots next size le none = λ k d lt n past. none k d lt n (omega (arith, le, past))

rows-none : (snapshots : List (List ℕ)) (from : ℕ) → map (blocks_from from from) snapshots ≡ zeros (length snapshots)
unfolding zeros
rows-none [] from = refl
rows-none (s ∷ ss) from = let none : blocks_from from from s ≡ 0 = omega arith in rw (none, rows-none ss from) refl

greatest-most : (f : List ℕ → ℕ) (snapshots : List (List ℕ)) → greatest_of (map f snapshots) ≡ most f snapshots
greatest-most f [] = refl
greatest-most f (s ∷ ss) = omega (arith, greatest-most f ss)

at_most : (numbers : List ℕ) (k : ℕ) → slice_index numbers k ≤ greatest_of numbers
at_most [] k = omega arith
at_most (n ∷ ns) zero = omega arith
at_most (n ∷ ns) (suc k) = omega (arith, at_most ns k)

-- ---- one line more

sum-order : (f : ℕ → ℕ) (from end : ℕ) → from ≤ end → sum_below f from ≤ sum_below f end
sum-order f from zero le = let none : from ≡ 0 = omega arith in rw none (omega arith)
sum-order f from (suc end) le = grind (arith, sum-order f from end, sum_below-more)

-- the sum up to a size that is set, or to one before it
sum-set : (s : List ℕ) (size count end : ℕ) → end ≤ size → sum_below (slice_index (set s size count)) end ≡ sum_below (slice_index s) end
sum-set s size count end le = grind (arith, sum_same, get_or-set_other)

blocks-set : (s : List ℕ) (from size count : ℕ) → from ≤ size → size < length s
    → blocks_from from (size + 1) (set s size count) ≡ blocks_from from size s + count
blocks-set s from size count le within =
    let next : size + 1 ≡ suc size = omega arith in
    grind (arith, sum_below-more, sum-set, get_or-set_same, sum-order)

rows-set : (snapshots : List (List ℕ)) (from size : ℕ) (counts : List ℕ) → from ≤ size → size ≤ largest_counted → All AreCounts snapshots
    → length counts ≡ length snapshots
    → map (blocks_from from (size + 1)) (with_counts snapshots size counts) ≡ sum_of_rows (map (blocks_from from size) snapshots) counts
unfolding with_counts
rows-set [] from size [] le small are wide = refl
rows-set [] from size (c ∷ cs) le small are wide = absurd (omega arith)
rows-set (s ∷ ss) from size [] le small are wide = absurd (omega arith)
rows-set (s ∷ ss) from size (c ∷ cs) le small are wide = grind (arith, rows-set ss from size cs le small (All-tail AreCounts s ss are) (omega arith), All-head, blocks-set)

most-set : (snapshots : List (List ℕ)) (from end size : ℕ) (counts : List ℕ) → from ≤ end → end ≤ size
    → most (blocks_from from end) (with_counts snapshots size counts) ≡ most (blocks_from from end) snapshots
unfolding with_counts
most-set [] from end size counts le past = refl
most-set (s ∷ ss) from end size [] le past = refl
most-set (s ∷ ss) from end size (c ∷ cs) le past = grind (arith, most-set ss from end size cs le past, sum-set)

uncounted-more : (snapshots : List (List ℕ)) (size : ℕ) (counts : List ℕ) → IsUncountedFrom size snapshots
    → IsUncountedFrom (size + 1) (with_counts snapshots size counts)
unfolding with_counts
uncounted-more [] size counts none = All-nil (λ s. (n : ℕ) → size + 1 ≤ n → slice_index s n ≡ 0)
uncounted-more (s ∷ ss) size [] none = uncounted-later (s ∷ ss) size (size + 1) (omega arith) none
uncounted-more (s ∷ ss) size (c ∷ cs) none =
    All-cons (λ s. (n : ℕ) → size + 1 ≤ n → slice_index s n ≡ 0) (set s size c) (with_counts ss size cs)
    (grind (arith, get_or-set_other, All-head))
    (uncounted-more ss size cs (All-tail (λ s. (n : ℕ) → size ≤ n → slice_index s n ≡ 0) s ss none))

bytes-kept : (snapshots : List (List ℕ)) (table : List ℕ) (size : ℕ) (counts : List ℕ) → AreSnapshots snapshots → IsLegalTable 1 table
    → (number : ℕ) → number ≤ length table → end_of 0 (take number table) ≤ size
    → bytes_of 0 (take number table) (with_counts snapshots size counts) ≡ bytes_of 0 (take number table) snapshots
bytes-kept snapshots table size counts are legal zero within past = refl
bytes-kept snapshots table size counts are legal (suc number) within past = grind (arith, bytes-kept snapshots table size counts are legal number (omega (arith, within)), first-order, end_of-next, most-set, bytes_of-next)

-- ---- a row more

sums-none : (blocks : List ℕ) → sum_of_rows blocks [] ≡ blocks
sums-none [] = refl
sums-none (b ∷ bs) = refl

pub sums-before : (blocks counts : List ℕ) (t : ℕ) → length counts ≡ length blocks
    → get_or (sum_of_rows blocks (take t counts)) t 0 ≡ get_or blocks t 0
sums-before [] counts t wide = refl
sums-before (b ∷ bs) [] t wide = absurd (omega arith)
sums-before (b ∷ bs) (c ∷ cs) zero wide = refl
sums-before (b ∷ bs) (c ∷ cs) (suc t) wide = sums-before bs cs t (omega arith)

pub sums-first : (blocks counts : List ℕ) → sum_of_rows blocks (take 0 counts) ≡ blocks
sums-first blocks counts = sums-none blocks

sums-next : (blocks counts : List ℕ) (t : ℕ) → length counts ≡ length blocks → t < length counts
    → sum_of_rows blocks (take (suc t) counts)
    ≡ set (sum_of_rows blocks (take t counts)) t (get_or (sum_of_rows blocks (take t counts)) t 0 + get_or counts t 0)
sums-next [] [] t wide lt = absurd (omega arith)
sums-next [] (c ∷ cs) t wide lt = absurd (omega arith)
sums-next (b ∷ bs) [] t wide lt = absurd (omega arith)
sums-next (b ∷ bs) (c ∷ cs) zero wide lt = rw (sums-none bs) refl
sums-next (b ∷ bs) (c ∷ cs) (suc t) wide lt = ap (λ (row : List ℕ). (b + c) ∷ row) (sums-next bs cs t (omega arith) (omega arith))

pub sums-more : (blocks counts : List ℕ) (t : ℕ) → length counts ≡ length blocks → t < length counts
    → set (sum_of_rows blocks (take t counts)) t (get_or (sum_of_rows blocks (take t counts)) t 0 + get_or counts t 0)
    ≡ sum_of_rows blocks (take (t + 1) counts)
sums-more blocks counts t wide lt = let next : t + 1 ≡ suc t = omega arith in rw next (sym (sums-next blocks counts t wide lt))

-- ---- what holds

pub zeros-are : (n : ℕ) → replicate n 0 ≡ zeros n
unfolding zeros
zeros-are n = refl

nothing : (n : ℕ) → IsUncountedFrom 0 (empty_snapshots n)
unfolding empty_snapshots
nothing zero = All-nil (λ s. (n : ℕ) → 0 ≤ n → slice_index s n ≡ 0)
nothing (suc n) = grind (arith, nothing n, each_is_zero)

-- before the first line
pub holds-none : (table : List ℕ) (count : ℕ) (blocks : List ℕ) (peaks : Profile) → 1 ≤ count → count ≤ MOST_SNAPSHOTS
    → blocks ≡ zeros count → peaks ≡ no_requests → HoldsSums table 0 0 blocks peaks (empty_snapshots count) 0
holds-none table count blocks peaks some few are none = record {
  are = empty-are count some few;
  peaks_are = none ∙ peaks_none;
  uncounted = nothing count;
  width = ap length are ∙ length-zeros count ∙ sym (empty-length count);
  within = omega arith;
  order = omega arith;
  total_is = refl;
  room = λ within. omega arith;
  blocks_are = λ within. are ∙ ap zeros (sym (empty-length count)) ∙ sym (rows-none (empty_snapshots count) 0);
}
  where
    peaks_none : no_requests ≡ peak_profile (empty_snapshots count)
    peaks_none = rw (peaks-empty count) refl

module _ (table : List ℕ) (legal : IsLegalTable 1 table) (number total : ℕ) (blocks : List ℕ) (peaks : Profile) (snapshots : List (List ℕ)) (next : ℕ)
    (holds : HoldsSums table number total blocks peaks snapshots next) where
  -- where a later size comes that the class serves or ends at
  pub holds-later : (size : ℕ) → next ≤ size → (number < length table → size ≤ end_of_class (slice_index table number))
      → HoldsSums table number total blocks peaks snapshots size
  holds-later size le room = grind (arith, rows-later)

  -- where the class is done
  module _ (within : number < length table) where
    abbrev class : ℕ
    class = get_or table number 0

    abbrev from : ℕ
    from = end_of 0 (take number table)

    class-taken : greatest_of blocks ≡ most (blocks_from from (end_of_class class)) snapshots
    class-taken =
        ap greatest_of (holds.blocks_are within ∙ sym (rows-later snapshots from next (end_of_class class) (holds.room within) holds.uncounted))
        ∙ greatest-most (blocks_from from (end_of_class class)) snapshots

    pub closed-total : total + 16 * class * greatest_of blocks ≡ bytes_of 0 (take (suc number) table) snapshots
    closed-total = rw class-taken (omega (arith, holds.total_is, bytes_of-next table number within snapshots))

    pub closed-small : total + 16 * class * greatest_of blocks < 2 ^ 58
    closed-small =
        let so_far = taken-first snapshots table holds.are legal (suc number) (omega (arith, within)) in
        omega (arith, closed-total, so_far.small, so_far.inside)

    pub holds-closed : (blocks' : List ℕ) → blocks' ≡ zeros (length blocks)
        → HoldsSums table (suc number) (total + 16 * class * greatest_of blocks) blocks' peaks snapshots (end_of_class class)
    holds-closed blocks' none = grind (arith, length-zeros, end_of-next, closed-total, rows-none)

  -- where a line comes
  pub holds-line : (size : ℕ) (counts blocks' : List ℕ) → size ≡ next → size ≤ largest_counted
      → (number < length table → size < end_of_class (slice_index table number)) → All (λ count. count ≤ greatest_count) counts
      → length counts ≡ length snapshots → length blocks' ≡ length blocks → (number < length table → blocks' ≡ sum_of_rows blocks counts)
      → HoldsSums table number total blocks' (with_count peaks size (greatest_of counts)) (with_counts snapshots size counts) (size + 1)
  holds-line size counts blocks' is small room few wide width sums = record {
    are = record {
      some = omega (arith, holds.are.some, with_counts-length snapshots size counts);
      few = omega (arith, holds.are.few, with_counts-length snapshots size counts);
      counts = with_counts-counts snapshots size counts holds.are.counts few;
    };
    peaks_are = rw (peaks-set snapshots size counts holds.are.counts small wide, holds.peaks_are) refl;
    uncounted = uncounted-more snapshots size counts (rw is holds.uncounted);
    width = width ∙ holds.width ∙ sym (with_counts-length snapshots size counts);
    within = holds.within;
    order = omega (arith, holds.order, is);
    total_is = holds.total_is ∙ sym (bytes-kept snapshots table size counts holds.are legal number holds.within (omega (arith, holds.order, is)));
    room = λ within. omega (arith, room within);
    blocks_are = λ within. sums within ∙ ap (λ (row : List ℕ). sum_of_rows row counts) (rw is (holds.blocks_are within))
        ∙ sym (rows-set snapshots (end_of 0 (take number table)) size counts (omega (arith, holds.order, is)) small holds.are.counts wide);
  }

  -- after the last line
  pub holds-all : length table ≤ number → (total ≡ footprint_of snapshots table) × (total < 2 ^ 58)
  holds-all all =
      let so_far = taken-first snapshots table holds.are legal number holds.within in (
        holds.total_is ∙ taken-all snapshots table holds.are legal number _ _ so_far all,
        omega (arith, holds.total_is, so_far.small, so_far.inside),
      )

  pub blocks-small : number < length table → (k : ℕ) → slice_index blocks k ≤ greatest_count * (largest_counted + 1)
  blocks-small within k = grind (arith, most-small, greatest-most, at_most)

-- Columns of counts with room for more lines.
use Rattle.std.proofs.Common.{◌≡◌, ℕ, zero, suc, ◌+◌, ◌<◌, ◌≤◌, ◌++◌, List, [], ◌∷◌, All, length, replicate, set, slice_index, slice_index_or, take}
use Rattle.std.proofs.{Common.{refl, sym, ap, ◌∙◌, arith, inl, inr, length-append}, lemmas.Bool.{cases_lt}, Math.Seq.{get_or-append_seam}}
use Rattle.std.proofs.lemmas.List.{Elements.{All-cons, All-head, All-tail}, get_or_append_left, length-map}
use Rattle.std.proofs.lemmas.List.{length-set, take_all, take_more_set}
use Rattle.class_table.specs.Sizes.{largest_counted}
use Rattle.profile_count.specs.Counts.{nothing_counted as no_requests, with_count}
use Rattle.tuner_theory.specs.{Profiles.{Profile, greatest_count}, declared.most_snapshots.TheConstants.{MOST_SNAPSHOTS}}
use Rattle.history_count.proofs.{Columns.{with_counts-length}, Peaks.{empty-length}}
use Rattle.history_count.proofs.SpreadLines.{columns-none, each_more, holds-more, holds-none, spread-more, spread-none}
use Rattle.history_count.specs.CountedLines.{HaveRoom, HoldsLines, SpellSoFar, first_counts, spread}
use Rattle.history_count.specs.Histories.{empty_snapshots, greatest_of, with_counts}

-- ---- one line more

pub with_counts-none : (columns : List (List ℕ)) (line : ℕ) → with_counts columns line [] ≡ columns
unfolding with_counts
with_counts-none [] line = refl
with_counts-none (column ∷ columns) line = refl

-- a column that has no count of the line yet
pub with_counts-at : (columns : List (List ℕ)) (line t : ℕ) (counts : List ℕ)
    → slice_index_or (with_counts columns line (take t counts)) t [] ≡ slice_index_or columns t []
unfolding with_counts
with_counts-at [] line t counts = refl
with_counts-at (column ∷ columns) line zero counts = refl
with_counts-at (column ∷ columns) line (suc t) [] = refl
with_counts-at (column ∷ columns) line (suc t) (c ∷ cs) = with_counts-at columns line t cs

set-more : (columns : List (List ℕ)) (line t : ℕ) (counts : List ℕ) → t < length counts → length counts ≤ length columns
    → set (with_counts columns line (take t counts)) t (set (slice_index_or columns t []) line (slice_index counts t))
    ≡ with_counts columns line (take (suc t) counts)
unfolding with_counts
set-more columns line t [] lt le = absurd (omega arith)
set-more [] line t (c ∷ cs) lt le = absurd (omega arith)
set-more (column ∷ columns) line zero (c ∷ cs) lt le = grind (arith, with_counts-none)
set-more (column ∷ columns) line (suc t) (c ∷ cs) lt le = grind (arith, set-more columns line t cs)

-- one column more
pub with_counts-more : (columns : List (List ℕ)) (line t : ℕ) (counts : List ℕ) → t < length counts → length counts ≤ length columns
    → set (with_counts columns line (take t counts)) t
    (set (slice_index_or (with_counts columns line (take t counts)) t []) line (slice_index counts t))
    ≡ with_counts columns line (take (t + 1) counts)
with_counts-more columns line t counts lt le =
    let next : t + 1 ≡ suc t = omega arith in
    rw (with_counts-at columns line t counts, next) (set-more columns line t counts lt le)

pub first-more : (columns : List (List ℕ)) (n : ℕ) (counts : List ℕ) → All (λ column. n < length column) columns
    → length counts ≡ length columns → first_counts (n + 1) (with_counts columns n counts) ≡ each_more (first_counts n columns) counts
unfolding with_counts each_more
first-more [] n counts wide size = refl
first-more (column ∷ columns) n [] wide size = absurd (omega arith)
first-more (column ∷ columns) n (c ∷ cs) wide size =
    rw (
      take_more_set column n c (All-head (λ (column : List ℕ). n < length column) column columns wide),
      first-more columns n cs (All-tail (λ (column : List ℕ). n < length column) column columns wide) (omega arith),
    ) refl

-- ---- room

pub first-length : (n : ℕ) (columns : List (List ℕ)) → length (first_counts n columns) ≡ length columns
first-length n columns = length-map columns (λ column. take n column)

pub no-columns : (count : ℕ) → first_counts 0 (replicate count []) ≡ replicate count []
no-columns zero = refl
no-columns (suc count) = ap (λ (l : List (List ℕ)). [] ∷ l) (no-columns count)

-- columns that are as long as that
pub first-all : (n : ℕ) (columns : List (List ℕ)) → All (λ column. length column ≡ n) columns → first_counts n columns ≡ columns
first-all n [] are = refl
first-all n (column ∷ columns) are =
    let size : length column ≡ n = All-head (λ (column : List ℕ). length column ≡ n) column columns are in
    rw (take_all n column (omega (arith, size)), first-all n columns (All-tail (λ (column : List ℕ). length column ≡ n) column columns are)) refl

-- one column with other counts after those of so many lines
pub first-set : (n t : ℕ) (columns : List (List ℕ)) (column : List ℕ) → t < length columns
    → take n column ≡ take n (slice_index_or columns t []) → first_counts n (set columns t column) ≡ first_counts n columns
first-set n t [] column lt same = refl
first-set n zero (first ∷ columns) column lt same = ap (λ (l : List ℕ). l ∷ first_counts n columns) same
first-set n (suc t) (first ∷ columns) column lt same = grind (arith, first-set n t columns column)

pub wide-next : (n : ℕ) (columns : List (List ℕ)) → HaveRoom (n + 1) columns → All (λ column. n < length column) columns
wide-next n columns are = omega arith

-- a line more leaves the room
wide-set : (columns : List (List ℕ)) (line room : ℕ) (counts : List ℕ) → All (λ column. length column ≡ room) columns
    → All (λ column. length column ≡ room) (with_counts columns line counts)
unfolding with_counts
wide-set [] line room counts are = are
wide-set (column ∷ columns) line room [] are = are
wide-set (column ∷ columns) line room (c ∷ cs) are =
    All-cons (λ (column : List ℕ). length column ≡ room) (set column line c) (with_counts columns line cs)
    (length-set column line c ∙ All-head (λ (column : List ℕ). length column ≡ room) column columns are)
    (wide-set columns line room cs (All-tail (λ (column : List ℕ). length column ≡ room) column columns are))

-- ---- the lines so far

-- no line
pub no-lines : (count : ℕ) → 1 ≤ count → count ≤ MOST_SNAPSHOTS
    → SpellSoFar [] (replicate count []) no_requests (empty_snapshots count) 0
no-lines count some few = record {
  spelled = record {
    are = sym (ap (spread []) (no-columns count) ∙ spread-none count);
    holds = rw (no-columns count, empty-length count) (holds-none count some few);
  };
  room = record { room = 0; wide = columns-none count; within = omega arith };
  below = λ k lt. absurd (omega arith);
}

-- one line more, in columns with the same counts so far
pub line-more : (sizes : List ℕ) (old columns : List (List ℕ)) (peaks : Profile) (n : ℕ) (counts : List ℕ) (snapshots : List (List ℕ))
    (next : ℕ) → SpellSoFar sizes old peaks snapshots next → next ≤ n → length snapshots ≡ length counts → n ≤ largest_counted
    → All (λ count. count ≤ greatest_count) counts → first_counts (length sizes) columns ≡ first_counts (length sizes) old
    → HaveRoom (length sizes + 1) columns
    → SpellSoFar (sizes ++ n ∷ []) (with_counts columns (length sizes) counts) (with_count peaks n (greatest_of counts))
    (with_counts snapshots n counts) (n + 1)
line-more sizes old columns peaks n counts snapshots next so_far le width small few kept room =
    let lines = length sizes in
    let spelled = so_far.spelled in
    let holds : HoldsLines (length counts) sizes (first_counts lines columns) peaks = rw (kept, ← width) spelled.holds in
    let above : (k : ℕ) → k < lines → slice_index sizes k < n = (λ k lt. omega (arith, so_far.below k lt)) in
    let size : length counts ≡ length columns = sym (sym (first-length lines columns) ∙ holds.width) in
    let more : first_counts (lines + 1) (with_counts columns lines counts) ≡ each_more (first_counts lines columns) counts =
    first-more columns lines counts (wide-next lines columns room) size in
    let longer : length (sizes ++ n ∷ []) ≡ lines + 1 = length-append sizes (n ∷ []) in
    let are = spelled.are ∙ ap (spread sizes) (sym kept) in
    let spread_more = spread-more sizes (first_counts lines columns) n counts holds.columns_are (size ∙ sym (first-length lines columns)) in
    record {
      spelled = rw (longer, more) (record {
        are = ap (λ s. with_counts s n counts) are ∙ sym spread_more;
        holds = rw (with_counts-length snapshots n counts, width)
            (holds-more sizes (first_counts lines columns) peaks n counts holds small above few);
      });
      room = rw longer (record { room = room.room; wide = wide-set columns lines room.room counts room.wide; within = room.within });
      below = λ k lt. elim (cases_lt k lines) [
        | inl before ↦ omega (arith, get_or_append_left sizes (n ∷ []) 0 k before, above k before)
        | inr not ↦ (let here : k ≡ lines = omega (arith, lt, longer) in rw (here, get_or-append_seam sizes n [] 0) (omega arith))
      ];
    }

-- The counts of one size in all snapshots, and what is left where they are set.
use Rattle.std.proofs.Common.{◌≡◌, ◌≢◌, ℕ, suc, ◌≤◌, List, [], ◌∷◌, length, set, refl, ap, ◌∙◌, arith, All}
use Rattle.std.proofs.lemmas.{Grind.{same_number_lists, common_steps}, List.{get_or-set_other, get_or-set_same, length-set}}
use Rattle.std.proofs.lemmas.List.Elements.{All-cons, All-head, All-nil, All-set, All-tail}
use Rattle.class_table.specs.Sizes.{largest_counted}
use Rattle.tuner_theory.specs.Profiles.{AreCounts, greatest_count}
use Rattle.history_count.specs.Histories.{counts_of, with_counts}

-- ---- the snapshots with other counts of one size

pub with_counts-length : (snapshots : List (List ℕ)) (n : ℕ) (counts : List ℕ) → length (with_counts snapshots n counts) ≡ length snapshots
unfolding with_counts
with_counts-length [] n counts = refl
with_counts-length (s ∷ ss) n [] = refl
with_counts-length (s ∷ ss) n (c ∷ cs) = ap suc (with_counts-length ss n cs)

-- they are snapshots where the counts are in range
pub with_counts-counts : (snapshots : List (List ℕ)) (n : ℕ) (counts : List ℕ) → All AreCounts snapshots
    → All (λ count. count ≤ greatest_count) counts → All AreCounts (with_counts snapshots n counts)
unfolding with_counts
with_counts-counts [] n counts are small = All-nil AreCounts
with_counts-counts (s ∷ ss) n [] are small = are
with_counts-counts (s ∷ ss) n (c ∷ cs) are small =
    let first : AreCounts s = All-head AreCounts s ss are in
    All-cons AreCounts (set s n c) (with_counts ss n cs)
    (record {
      sizes = length-set s n c ∙ first.sizes;
      in_range = All-set (λ count. count ≤ greatest_count) s n c (All-head (λ count. count ≤ greatest_count) c cs small) first.in_range;
    })
    (with_counts-counts ss n cs (All-tail AreCounts s ss are) (All-tail (λ count. count ≤ greatest_count) c cs small))

-- ---- the counts of one size

pub counts_of-length : (snapshots : List (List ℕ)) (n : ℕ) → length (counts_of snapshots n) ≡ length snapshots
counts_of-length snapshots n = grind (arith, common_steps)

-- those of the size are set,
pub counts_of-same : (snapshots : List (List ℕ)) (n : ℕ) (counts : List ℕ) → All AreCounts snapshots → n ≤ largest_counted
    → length counts ≡ length snapshots → counts_of (with_counts snapshots n counts) n ≡ counts
unfolding with_counts
counts_of-same [] n [] are small size = refl
counts_of-same [] n (c ∷ cs) are small size = absurd (omega arith)
counts_of-same (s ∷ ss) n [] are small size = absurd (omega arith)
counts_of-same (s ∷ ss) n (c ∷ cs) are small size = grind (arith, counts_of-same ss n cs (All-tail AreCounts s ss are) small (omega arith), All-head, get_or-set_same)

-- and no others.
pub counts_of-other : (snapshots : List (List ℕ)) (n k : ℕ) (counts : List ℕ) → k ≢ n
    → counts_of (with_counts snapshots n counts) k ≡ counts_of snapshots k
unfolding with_counts
counts_of-other [] n k counts other = refl
counts_of-other (s ∷ ss) n k [] other = refl
counts_of-other (s ∷ ss) n k (c ∷ cs) other = grind (arith, get_or-set_other, counts_of-other ss n k cs other)

pub same_snapshots : (one other : List (List ℕ)) → length one ≡ length other → All AreCounts one → All AreCounts other
    → ((n : ℕ) → n ≤ largest_counted → counts_of one n ≡ counts_of other n) → one ≡ other
same_snapshots [] [] size are also each = refl
same_snapshots [] (t ∷ ts) size are also each = absurd (omega arith)
same_snapshots (s ∷ ss) [] size are also each = absurd (omega arith)
same_snapshots (s ∷ ss) (t ∷ ts) size are also each =
    let first : AreCounts s = All-head AreCounts s ss are in
    let first_too : AreCounts t = All-head AreCounts t ts also in
    let same : s ≡ t =
    grind (arith, same_number_lists) in
    let rest : ss ≡ ts =
    same_snapshots ss ts (omega arith) (All-tail AreCounts s ss are) (All-tail AreCounts t ts also)
    (grind arith) in
    rw (same, rest) refl

-- How many ends are tried for a part of the places, half by half, and for rows, one by one.
use Rattle.std.proofs.Common.{◌≡◌, ℕ, zero, suc, ◌+◌, ◌-◌, ◌/◌, ◌<◌, ◌≤◌, max, List, [], ◌∷◌, ◌++◌, length, slice_index, arith, refl}
use Rattle.std.proofs.{lemmas.Bool.{cond-true, lt-ltb}}
use Rattle.class_tuner.{proofs.Rows.{number_at-new, number_at-old}, specs.CallCounts.{calls_of, ends_after, tried_in_row, tried_within}}
use Rattle.tuner_theory.specs.Rows.{number_at}

-- no place, no end
pub tried-none : (end : ℕ → ℕ) (b start stop low high : ℕ) → stop ≤ start → tried_within end b start stop low high ≡ 0
unfolding tried_within
tried-none end b start stop low high is = grind arith

-- a part by its middle place and its halves
tried-halved : (end : ℕ → ℕ) (b start stop low high : ℕ) → start < stop → let middle : ℕ = start + (stop - start) / 2 in
    tried_within end (suc b) start stop low high
    ≡ ends_after middle low high + tried_within end b start middle low (end middle) + tried_within end b (suc middle) stop (end middle) high
unfolding tried_within
tried-halved end b start stop low high lt = cond-true _ _ _ (lt-ltb start stop lt)

-- only the ends of the part's own places matter
pub tried-same : (end end' : ℕ → ℕ) (b start stop low high : ℕ) → ((i : ℕ) → start ≤ i → i < stop → end i ≡ end' i)
    → tried_within end b start stop low high ≡ tried_within end' b start stop low high
unfolding tried_within
tried-same end end' zero start stop low high same = refl
tried-same end end' (suc b) start stop low high same = grind (arith, tried-same end end' b start, tried-same end end' b)

-- the calls for a part: first those for the middle place, then those for each half, whose ends stay
pub tried-part : (end_left end : ℕ → ℕ) (b start stop low high first least calls here left right : ℕ) → start < stop
    → let middle : ℕ = start + (stop - start) / 2 in
    first ≡ max low (middle + 1) → first ≤ high → end middle ≡ least → ((i : ℕ) → start ≤ i → i < middle → end_left i ≡ end i)
    → here ≡ calls + (high - first) + 1 → left ≡ here + tried_within end_left b start middle low least
    → right ≡ left + tried_within end b (middle + 1) stop least high → right ≡ calls + tried_within end (suc b) start stop low high
tried-part end_left end b start stop low high first least calls here left right lt is_first room is same at_middle at_left at_right = grind (arith, tried-halved, tried-same)

-- ---- rows

-- only the ends of the rows' places matter
pub calls-same : (ends ends' : ℕ → ℕ → ℕ) (d k : ℕ) → ((m i : ℕ) → 1 ≤ m → m ≤ k → i < d → ends m i ≡ ends' m i)
    → calls_of ends d k ≡ calls_of ends' d k
unfolding calls_of
calls-same ends ends' d zero same = refl
calls-same ends ends' d (suc zero) same = refl
calls-same ends ends' d (suc (suc k)) same = grind (arith, tried-same, calls-same ends ends' d (suc k) (λ m i one le lt. same m i one (omega arith) lt))

pub calls-first : (ends : ℕ → ℕ → ℕ) (d : ℕ) → calls_of ends d 1 ≡ d
unfolding calls_of
calls-first ends d = refl

calls-more : (ends : ℕ → ℕ → ℕ) (d k : ℕ) → calls_of ends d (suc (suc k)) ≡ calls_of ends d (suc k) + tried_in_row (ends (suc (suc k))) d
unfolding calls_of
calls-more ends d k = refl

calls-row : (rows : List (List ℕ)) (row : List ℕ) (d k : ℕ) → length rows ≡ suc k
    → calls_of (number_at (rows ++ row ∷ [])) d (suc (suc k)) ≡ calls_of (number_at rows) d (suc k) + tried_in_row (slice_index row) d
calls-row rows row d k size = grind (arith, calls-more, calls-same, number_at-old, tried-same, slice_index, number_at-new)

-- one row more
pub calls-pushed : (rows rows' : List (List ℕ)) (row : List ℕ) (d k start calls more : ℕ) → 1 ≤ k → length rows ≡ k
    → rows' ≡ rows ++ row ∷ [] → calls ≡ start + calls_of (number_at rows) d k → more ≡ calls + tried_in_row (slice_index row) d
    → more ≡ start + calls_of (number_at rows') d (suc k)
calls-pushed rows rows' row d zero start calls more one size are before now = absurd (omega arith)
calls-pushed rows rows' row d (suc k) start calls more one size are before now = grind (arith, calls-row)

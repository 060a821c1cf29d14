-- The two halves of a part: where their least ends are, and how often the source is asked for them.
use Rattle.std.proofs.Common.{◌≡◌, ℕ, suc, ◌+◌, ◌*◌, ◌^◌, ◌/◌, ◌<◌, ◌≤◌, List, slice_index, arith}
use Rattle.class_tuner.specs.Filling.{AreEndsBetween, end_cost}
use Rattle.tuner_theory.{proofs.LawLemmas.{ends_ascend}, specs.Rows.{IsLeastEnd}, specs.Spans.{IsCrossing}}

module _ (cost : ℕ → ℕ → ℕ) (d : ℕ) (crossing : IsCrossing cost d) (before : List ℕ) (start stop low high middle end : ℕ)
    (between : AreEndsBetween cost d before start stop low high) (least : IsLeastEnd (end_cost cost before middle) middle d end) where
  -- the places left of the middle one end no later than it does,
  pub between-left : middle < stop → AreEndsBetween cost d before start middle low end
  between-left lt i from below e is_least = (
    (between i from (omega arith) e is_least).0,
    ends_ascend cost (slice_index before) d i middle e end crossing (omega arith) is_least least,
  )

  -- and those right of it no earlier
  pub between-right : start ≤ middle → AreEndsBetween cost d before (suc middle) stop end high
  between-right le i from below e is_least = (
    ends_ascend cost (slice_index before) d middle i end e crossing (omega arith) least is_least,
    (between i (omega arith) below e is_least).1,
  )

-- a half has one binary digit less
pub half-digits : (n b : ℕ) → n < 2 ^ suc b → n / 2 < 2 ^ b
half-digits n b lt = omega arith

-- the count: n places with w steps between their first and last ends; the middle one is asked for `here` ends, and its end parts
-- the steps between the halves
pub count-halves : (n w wl wr nl nr b calls here left right : ℕ) → wl + wr ≡ w → nl + nr + 1 ≡ n → here ≤ w + 1
    → left ≤ calls + here + wl * b + nl → right ≤ left + wr * b + nr → right ≤ calls + w * suc b + n
count-halves n w wl wr nl nr b calls here left right parts halves most l r = grind arith

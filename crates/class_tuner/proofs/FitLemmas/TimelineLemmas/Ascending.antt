-- Numbers of which each is below the next.
use Rattle.std.{proofs.Common.{◌≡◌, ℕ, ◌+◌, ◌-◌, ◌<◌, ◌≤◌, List, length, slice_index, arith, inl, inr}, specs.List.{insert}}
use Rattle.std.proofs.lemmas.{Bool.{cases_eq, cases_lt}, List.Kept.{AllPairs-from_increasing}}
use Rattle.std.proofs.lemmas.List.Edits.{get_or-insert_above, get_or-insert_at, get_or-insert_below, length-insert}
use Rattle.std.specs.List.Sorted.{IsNonDecreasingBy, IsStrictlyIncreasing}

pub ascending-rises : (xs : List ℕ) → IsStrictlyIncreasing xs → IsNonDecreasingBy (λ n. n) xs
ascending-rises xs up i j d le lt = grind (arith, cases_lt, AllPairs-from_increasing)

-- a number at its place among others
pub insert-ascends : (xs : List ℕ) (i n : ℕ) → IsStrictlyIncreasing xs → i ≤ length xs → ((k : ℕ) → k < i → slice_index xs k < n)
    → ((k : ℕ) → i ≤ k → k < length xs → n < slice_index xs k) → IsStrictlyIncreasing (insert xs i n)
insert-ascends xs i n up within below above k lt =
    elim (cases_lt k i) [
      | inl before ↦ grind (arith, get_or-insert_below, get_or-insert_at)
      | inr after ↦ elim (cases_eq k i) [
        | inl here ↦ grind (arith, get_or-insert_at, get_or-insert_above, length-insert)
        | inr past ↦ (let j : ℕ = k - 1 in
            let next : k ≡ j + 1 = omega arith in
            grind (arith, get_or-insert_above, length-insert))
      ]
    ]

-- Binary digits, and the count of calls row by row.
use Rattle.std.proofs.{Common.{◌≡◌, ℕ, zero, suc, ◌+◌, ◌-◌, ◌*◌, ◌/◌, ◌^◌, ◌<◌, ◌≤◌, arith, ap, subst, inl, inr}, lemmas.Bool.{cases_lt}}
use Rattle.std.proofs.{lemmas.Int.Digits.{length-digits_of-le, length-digits_of_step}}
use Rattle.class_table.specs.declared.{sizes.TheConstants.{MOST_NEEDS}, table.TheConstants.{MOST_CLASSES}}
use Rattle.class_tuner.specs.CallCounts.{bits, most_calls}

doubled : (n b c : ℕ) → n / 2 < 2 ^ b → c ≡ suc b → n < 2 ^ c
doubled n b c lt e = let power : 2 ^ c ≡ 2 ^ suc b = ap (λ k. 2 ^ k) e in omega arith

below-up_to : (m n : ℕ) → n ≤ m → n < 2 ^ bits n
below-up_to zero n le = let none : 0 ≡ n = omega arith in subst (λ (k : ℕ). k < 2 ^ bits k) none (omega arith)
below-up_to (suc m) n le =
    elim (cases_lt 0 n) [
      | inl some ↦ doubled n (bits (n / 2)) (bits n) (below-up_to m (n / 2) (omega arith))
          (omega (arith, length-digits_of_step 2 n (omega arith) some))
      | inr none ↦ below-up_to m n (omega arith)
    ]

-- a number is below the power of two of its binary digits
pub below-bits : (n : ℕ) → n < 2 ^ bits n
below-bits n = below-up_to n n (omega arith)

-- one row more takes at most w calls more
stage-count : (start calls more k limit w : ℕ) → calls ≤ start + k * w → more ≤ calls + w → k < limit → more ≤ start + limit * w
stage-count start calls more k limit w before now lt = grind arith

pub calls-more : (start calls more k limit d : ℕ) → calls ≤ start + most_calls k d → more ≤ calls + ((d - 1) * bits d + d) → k < limit
    → more ≤ start + most_calls limit d
calls-more start calls more k limit d before now lt = stage-count start calls more k limit ((d - 1) * bits d + d) before now lt

-- the rows before leave room for the calls of one more
pub room-left : (start calls k d : ℕ) → start < 2 ^ 62 → k ≤ MOST_CLASSES → d ≤ MOST_NEEDS
    → calls ≤ start + most_calls k d → calls + MOST_NEEDS * d ≤ 2 ^ 63
room-left start calls k d small few le counted =
    let digits : bits d ≤ 10 = length-digits_of-le 2 10 d (omega arith) (omega arith) in
    grind arith

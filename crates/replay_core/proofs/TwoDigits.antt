-- The table of two digits, and numbers that are written two digits at a time.
use Rattle.std.proofs.Common.{◌≡◌, ℕ, ◌/◌, ◌%◌, ◌<◌, ◌≤◌, ◌^◌, [], ◌++◌, map, get_or, refl, ap, ◌∙◌, zero-add, append_assoc}
use Rattle.std.proofs.{Common.{arith}, lemmas.Fmt.{decimal_digit, decimal_step}, lemmas.List.FromFn.{get_or-map-range_with_len}}
use Rattle.std.specs.{Fmt.{decimal}, List.{range_with_len}}
use Rattle.replay_core.specs.{TwoDigits.{two_digits}, declared.put.TheConstants.{TENS}}

tens_are : TENS ≡ map two_digits (range_with_len 0 100)
tens_are = refl

pub two_at : (n : ℕ) → n < 100 → get_or TENS n [] ≡ two_digits n
two_at n small = ap (λ all. get_or all n []) tens_are ∙ get_or-map-range_with_len two_digits 0 100 n n [] small (zero-add n)

-- a number of two digits
pub decimal_two : (n : ℕ) → 10 ≤ n → n < 100 → decimal n ≡ two_digits n
decimal_two n some small = grind (arith, decimal_step, decimal_digit)

-- a number of more than two
pub decimal_more : (n : ℕ) → 100 ≤ n → n < 2 ^ 64 → decimal n ≡ decimal (n / 100) ++ two_digits (n % 100)
decimal_more n some small = grind (arith, decimal_step, append_assoc)

-- a number of more than four
pub decimal_four_more : (n : ℕ) → 10000 ≤ n → n < 2 ^ 64 →
    decimal n ≡ decimal (n / 10000) ++ two_digits (n % 10000 / 100) ++ two_digits (n % 10000 % 100)
decimal_four_more n some small = grind (arith, decimal_more)

-- The four new bits of a draw, taken at once.
use Rattle.std.proofs.{Common.{◌≡◌, ℕ, ◌+◌, ◌*◌, ◌/◌, ◌%◌, ◌^◌, ap, ◌∙◌, arith, pow-add}, Math.Nat.{div-div-eq-div-mul}}
use Rattle.std.{proofs.lemmas.Nat.{and_mask}, proofs.lemmas.Nat.Bits.{bit_at_xor}, specs.Int.{bit_at}, specs.Int.Bits.{bit_and, bit_xor}}
use Rattle.machine_theory.specs.Seed.{next_bit, next_offset}

-- a number shifted to the right
pub bit_at_shr : (n k i : ℕ) → bit_at (n / 2 ^ k) i ≡ bit_at n (i + k)
bit_at_shr n k i = grind (arith, div-div-eq-div-mul, pow-add)

twice : ℕ → ℕ
twice seed = bit_xor seed (seed / 8)

twice_bit : (seed n : ℕ) → bit_at (twice seed) n ≡ (bit_at seed n + bit_at seed (n + 3)) % 2
unfolding twice
twice_bit seed n = bit_at_xor seed (seed / 8) n ∙ ap (λ b. (bit_at seed n + b) % 2) (bit_at_shr seed 3 n)

mixed : ℕ → ℕ
mixed seed = bit_xor (twice seed) (twice seed / 4)

mixed_bit : (seed n : ℕ) → bit_at (mixed seed) n ≡ next_bit seed n
unfolding mixed
mixed_bit seed n =
    let both : bit_at (mixed seed) n ≡ (bit_at (twice seed) n + bit_at (twice seed) (n + 2)) % 2 =
    bit_at_xor (twice seed) (twice seed / 4) n ∙ ap (λ b. (bit_at (twice seed) n + b) % 2) (bit_at_shr (twice seed) 2 n) in
    grind (arith, twice_bit)
  where
    summed : (a b c d low high out : ℕ) → low ≡ (a + c) % 2 → high ≡ (b + d) % 2 → out ≡ (low + high) % 2 → out ≡ (a + b + c + d) % 2
    summed a b c d low high out e f g = omega arith

low_bits : (n : ℕ) → n % 16 ≡ bit_at n 0 + 2 * bit_at n 1 + 4 * bit_at n 2 + 8 * bit_at n 3
low_bits n = omega arith

pub new_bits : (seed : ℕ) → bit_and (bit_xor (bit_xor seed (seed / 8)) (bit_xor seed (seed / 8) / 4)) 15 ≡ next_offset seed
unfolding next_offset mixed twice
new_bits seed =
    and_mask (mixed seed) 4 ∙ low_bits (mixed seed)
    ∙ (λ i. mixed_bit seed 0 i + 2 * mixed_bit seed 1 i + 4 * mixed_bit seed 2 i + 8 * mixed_bit seed 3 i)

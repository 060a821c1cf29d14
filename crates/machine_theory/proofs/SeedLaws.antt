-- Draws of bits: one by one, four at once, and as parts of one sequence.
use Rattle.std.proofs.Common.{◌≡◌, ℕ, zero, suc, ◌+◌, ◌-◌, ◌*◌, ◌/◌, ◌%◌, ◌^◌, ◌<◌, sym, ap, ◌∙◌, subst, inl, inr, arith}
use Rattle.std.{proofs.lemmas.Bool.{agree_below_at, cases_lt, eq-eqb, eqb-true}, specs.Int.{bit_at}}
use Rattle.std.proofs.lemmas.Nat.Bits.{bit_at_cat_low, bit_at_cat_high, bit_at-suc, bit_at_lowest}
use Rattle.machine_theory.specs.Seed.{Begins, next_bit, next_offset, next_seed, seed_after}

-- ---- the register

pub next_offset-below : (seed : ℕ) → next_offset seed < 16
unfolding next_offset
next_offset-below seed = omega arith

pub next_seed-below : (seed : ℕ) → seed < 2 ^ 16 → next_seed seed < 2 ^ 16
unfolding next_seed
next_seed-below seed fits = omega (arith, next_offset-below seed)

-- The seed never becomes 0: if it is 16 or more, a set bit stays in it; if it is 1 to 15, the offset that is drawn is not 0.
pub next_seed-some : (seed : ℕ) → 0 < seed → seed < 2 ^ 16 → 0 < next_seed seed
unfolding next_seed next_offset
next_seed-some seed some fits = grind (arith, cases_lt, agree_below_at, eqb-true, eq-eqb)

-- ---- a draw shifts the register by four bits, and puts four new ones on top

low_bit : (seed n : ℕ) → n < 12 → bit_at (next_seed seed) n ≡ bit_at seed (4 + n)
unfolding next_seed
low_bit seed n h =
    ap (λ s. bit_at s n) turned ∙ bit_at_cat_low (next_offset seed) 12 (seed / 16) n h ∙ ap (λ s. bit_at s n) halves
    ∙ sym (bit_at-suc seed (suc (suc (suc n))) ∙ bit_at-suc (seed / 2) (suc (suc n)) ∙ bit_at-suc (seed / 2 / 2) (suc n)
    ∙ bit_at-suc (seed / 2 / 2 / 2) n) ∙ ap (bit_at seed) (omega arith)
  where
    turned : seed / 16 + 2 ^ 12 * next_offset seed ≡ next_offset seed * 2 ^ 12 + seed / 16
    turned = omega arith

    halves : seed / 16 ≡ seed / 2 / 2 / 2 / 2
    halves = omega arith

offset_bit : (seed n : ℕ) → n < 4 → bit_at (next_offset seed) n ≡ next_bit seed n
unfolding next_offset
offset_bit seed zero h = bit_at_lowest _ ∙ omega arith
offset_bit seed (suc zero) h = bit_at-suc _ 0 ∙ bit_at_lowest _ ∙ omega arith
offset_bit seed (suc (suc zero)) h = bit_at-suc _ 1 ∙ bit_at-suc _ 0 ∙ bit_at_lowest _ ∙ omega arith
offset_bit seed (suc (suc (suc zero))) h = bit_at-suc _ 2 ∙ bit_at-suc _ 1 ∙ bit_at-suc _ 0 ∙ bit_at_lowest _ ∙ omega arith
offset_bit seed (suc (suc (suc (suc n)))) h = absurd (omega arith)

high_bit : (seed n : ℕ) → seed < 2 ^ 16 → n < 4 → bit_at (next_seed seed) (12 + n) ≡ next_bit seed n
unfolding next_seed
high_bit seed n fits h =
    ap (λ s. bit_at s (12 + n)) turned ∙ bit_at_cat_high (next_offset seed) 12 (seed / 16) (12 + n) (omega arith) (omega arith)
    ∙ ap (bit_at (next_offset seed)) (omega arith) ∙ offset_bit seed n h
  where
    turned : seed / 16 + 2 ^ 12 * next_offset seed ≡ next_offset seed * 2 ^ 12 + seed / 16
    turned = omega arith

-- ---- the sequence that a seed begins

seed_after-below : (k seed : ℕ) → seed < 2 ^ 16 → seed_after k seed < 2 ^ 16
seed_after-below zero seed fits = fits
seed_after-below (suc k) seed fits = next_seed-below (seed_after k seed) (seed_after-below k seed fits)

-- bit n of the sequence
random_bit : ℕ → ℕ → ℕ
random_bit seed n = bit_at (seed_after (n / 4) seed) (n % 4)

-- the register after k draws has the sixteen bits from bit 4 k on
first_bits : (seed k i : ℕ) → i < 4 → random_bit seed (4 * k + i) ≡ bit_at (seed_after k seed) i
unfolding random_bit
first_bits seed k i h = grind arith

register_bits : (j seed k i : ℕ) → i < 4 * suc j → i < 16 → random_bit seed (4 * k + i) ≡ bit_at (seed_after k seed) i
register_bits zero seed k i few h = first_bits seed k i (omega arith)
register_bits (suc j) seed k i few h = grind (arith, first_bits, cases_lt, low_bit, register_bits j seed (suc k) (i - 4) (omega arith) (omega arith))

pub Begins-some : (seed : ℕ) → seed < 2 ^ 16 → (x : ℕ → ℕ) × Begins seed x
Begins-some seed fits = (
  random_bit seed,
  record {
    own = λ n h. bit n 0 n (omega arith) h;
    further = λ n. bit (n + 16) (suc (n / 4)) (12 + n % 4) (omega arith) (omega arith)
        ∙ high_bit (seed_after (n / 4) seed) (n % 4) (seed_after-below (n / 4) seed fits) (omega arith)
        ∙ (grind (arith, bit));
  },
)
  where
    bit : (n k i : ℕ) → n ≡ 4 * k + i → i < 16 → random_bit seed n ≡ bit_at (seed_after k seed) i
    bit n k i is h = ap (random_bit seed) is ∙ register_bits 3 seed k i (omega arith) h

Begins-same : (seed : ℕ) (x y : ℕ → ℕ) → ((n : ℕ) → x n ≡ y n) → Begins seed x → Begins seed y
Begins-same seed x y same b = subst (Begins seed) (λ i n. same n i) b

next_bit-Begins : (seed : ℕ) (x : ℕ → ℕ) (n : ℕ) → n < 11 → Begins seed x → next_bit seed n ≡ x (n + 16)
next_bit-Begins seed x n h b = omega arith

pub next_offset-Begins : (seed : ℕ) (x : ℕ → ℕ) → Begins seed x → next_offset seed ≡ x 16 + 2 * x 17 + 4 * x 18 + 8 * x 19
unfolding next_offset
next_offset-Begins seed x b =
    λ i. next_bit-Begins seed x 0 (omega arith) b i + 2 * next_bit-Begins seed x 1 (omega arith) b i + 4 * next_bit-Begins seed x 2
    (omega arith) b i + 8 * next_bit-Begins seed x 3 (omega arith) b i

-- after a draw the register begins the sequence from bit 4 on
next_seed-Begins : (seed : ℕ) (x : ℕ → ℕ) → seed < 2 ^ 16 → Begins seed x → Begins (next_seed seed) (λ n. x (4 + n))
next_seed-Begins seed x fits b = record {
  own = λ n h. elim (cases_lt n 12) [
    | inl low ↦ b.own (4 + n) (omega arith) ∙ sym (low_bit seed n low)
    | inr high ↦ ap x (omega arith) ∙ sym (next_bit-Begins seed x (n - 12) (omega arith) b)
        ∙ sym (high_bit seed (n - 12) fits (omega arith)) ∙ ap (bit_at (next_seed seed)) (omega arith)
  ];
  further = λ n. ap x (omega arith) ∙ b.further (4 + n) ∙ (λ i. (x (4 + n) + x (after 2 n i) + x (after 3 n i) + x (after 5 n i)) % 2);
}
  where
    after : (k n : ℕ) → 4 + n + k ≡ 4 + (n + k)
    after k n = omega arith

pub seed_after-Begins : (k seed : ℕ) (x : ℕ → ℕ) → seed < 2 ^ 16 → Begins seed x →
    (seed_after k seed < 2 ^ 16) × Begins (seed_after k seed) (λ n. x (4 * k + n))
seed_after-Begins zero seed x fits b = (fits, Begins-same seed x (λ n. x (4 * 0 + n)) (λ n. ap x (omega arith)) b)
seed_after-Begins (suc k) seed x fits b =
    let before = seed_after-Begins k seed x fits b in (
      next_seed-below (seed_after k seed) before.0,
      Begins-same (next_seed (seed_after k seed)) (λ n. x (4 * k + (4 + n))) (λ n. x (4 * suc k + n)) (λ n. ap x (omega arith))
          (next_seed-Begins (seed_after k seed) (λ n. x (4 * k + n)) before.0 before.1),
    )

-- The seed register RGSR_EL1.SEED.
-- This project's own, after AArch64.NextRandomTagBit and AArch64.RandomTag for RRND = 0 (Arm ARM DDI 0487, Memory Tagging Extension).
use Rattle.std.{proofs.Common.{zero}, specs.Int.{bit_at}, specs.Prelude.{◌≡◌, ℕ, suc, ◌+◌, ◌*◌, ◌/◌, ◌%◌, ◌^◌, ◌<◌}}

-- The sequence of random bits that a seed begins: its own sixteen, lowest first, and then by the recurrence.
pub record Begins (seed : ℕ) (x : ℕ → ℕ) : Type 0 where
  pub own : (n : ℕ) → n < 16 → x n ≡ bit_at seed n
  pub further : (n : ℕ) → x (n + 16) ≡ (x n + x (n + 2) + x (n + 3) + x (n + 5)) % 2

-- bit n + 16 of that sequence, for n up to 10
abbrev pub next_bit : ℕ → ℕ → ℕ
next_bit seed n = (bit_at seed n + bit_at seed (n + 2) + bit_at seed (n + 3) + bit_at seed (n + 5)) % 2

-- the offset that IRG draws, by which it chooses a tag: bits 16 to 19 of that sequence, lowest first
unfoldable pub next_offset : ℕ → ℕ
next_offset seed = next_bit seed 0 + 2 * next_bit seed 1 + 4 * next_bit seed 2 + 8 * next_bit seed 3

-- the register that IRG leaves: bits 4 to 19 of the sequence, lowest first
unfoldable pub next_seed : ℕ → ℕ
next_seed seed = seed / 16 + 2 ^ 12 * next_offset seed

-- the register after IRG has drawn this many times
abbrev pub seed_after : ℕ → ℕ → ℕ
seed_after zero seed = seed
seed_after (suc k) seed = next_seed (seed_after k seed)

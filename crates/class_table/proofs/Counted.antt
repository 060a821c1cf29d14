-- Numbers that are known to be at most another one.
use Rattle.std.proofs.{Common.{ℕ, ◌*◌, ◌/◌, ◌%◌, ◌^◌, ◌<◌, ◌≤◌, List, arith, slice_index}}
use Rattle.std.proofs.Math.Nat.{pow-le-pow_right}
use Rattle.class_table.specs.Counts.{AreAtMost, AreCounts}

-- in a table of counts whose step is a power of 2, a count at or before the place of n
pub count_before : (numbers counts : List ℕ) (shift n place : ℕ) → AreCounts counts (2 ^ shift) numbers → place ≤ n / 2 ^ shift
    → place < 1024 → AreAtMost numbers n (slice_index counts place)
count_before numbers counts shift n place are before within = grind arith

-- a slot is within the counts that reach the last one
pub within_counts : (slot slots shift : ℕ) → slot < slots → slots ≤ 1024 * 2 ^ shift → slot / 2 ^ shift < 1024
within_counts slot slots shift within reach = grind arith

-- a step that is computed as a shift of 1 in 32 bits
pub counts_by_shift : (counts numbers : List ℕ) (shift : ℕ) → shift ≤ 7 → AreCounts counts (1 * 2 ^ shift % 2 ^ 32) numbers
    → AreCounts counts (2 ^ shift) numbers
counts_by_shift counts numbers shift few are = grind (arith, pow-le-pow_right)

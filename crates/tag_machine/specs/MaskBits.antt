-- The set bits of a number.
use Rattle.std.specs.{Int.{bit_at}, List.{range_with_len}, Prelude.{ℕ, ◌==◌, List, filter}}

-- the places of the set bits among the lowest sixteen, in ascending order
unfoldable pub set_bits : ℕ → List ℕ
set_bits bits = filter (λ k. bit_at bits k == 1) (range_with_len 0 16)

-- How many chunks a call frees.
use Rattle.std.specs.Prelude.{ℕ, ◌==◌, if◌then◌else◌, is_some}
use Rattle.heap_theory.specs.{Calls.{slot_if_moved}, Lookups.{chunk_at}, State.{Heap}}

-- The chunks that a realloc of n bytes at p frees: one where it moves a chunk to another slot, else none.
unfoldable pub frees_of_realloc : Heap → ℕ → ℕ → ℕ
frees_of_realloc heap p n = if p == 0 then 0 else if is_some (slot_if_moved heap n (chunk_at heap p)) then 1 else 0

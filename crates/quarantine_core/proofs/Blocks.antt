-- How many bytes the blocks of different slots can have together.
use Rattle.std.proofs.{Common.{◌≢◌, ℕ, ◌*◌, ◌<◌, ◌≤◌, ◌^◌, List, length, get_or, arith, AllPairs, Contains}, lemmas.List.Sums.{sum_by-le}}
use Rattle.std.proofs.lemmas.List.Elements.{Contains-get_or}
use Rattle.class_table.proofs.LawLemmas.{slots_have_at_most_1024_granules}
use Rattle.class_table.specs.Layout.{Partition, IsPartition, block_bytes, slot_count, slot_of}
use Rattle.heap_theory.{proofs.ListSearch.{few_below}, specs.QueueAndLists.{bytes_of}}

-- a slot's block has at most 1,024 granules
pub small_block : (layout : Partition) (s : ℕ) → IsPartition layout → s < slot_count layout → block_bytes (slot_of layout s) ≤ 16384
small_block layout s partition within =
    omega (arith, slots_have_at_most_1024_granules 1 layout s partition.table within)

pub few_bytes : (layout : Partition) (slots : List ℕ) → IsPartition layout → slot_count layout ≤ 131072 →
    ((s : ℕ) → Contains slots s → s < slot_count layout) → AllPairs (λ s r. s ≢ r) slots → bytes_of layout slots ≤ 2 ^ 31
few_bytes layout slots partition few within apart =
    let long : length slots ≤ slot_count layout =
    few_below (slot_count layout) slots within apart in
    let sum : bytes_of layout slots ≤ length slots * 16384 =
    sum_by-le (λ s. block_bytes (slot_of layout s)) 16384 slots (λ k d at. small_block layout (get_or slots k d) partition
    (within (get_or slots k d) (Contains-get_or slots k d at))) in
    omega arith

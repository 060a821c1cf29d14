-- A new heap is sound.
use Rattle.std.proofs.{Common.{◌≡◌, ℕ, length, get_or, replicate, cond, arith}, lemmas.Bool.{cases_lt, cond_both}}
use Rattle.std.proofs.lemmas.List.{get_or-replicate, length-replicate, get_or_past}
use Rattle.std.proofs.lemmas.List.FromFn.{get_or-map-range_with_len, length-map-range_with_len}
use Rattle.machine_theory.{proofs.MemoryLaws.{tag_at_past}, specs.Memory.{no_granule, new_granule, tag_at}}
use Rattle.class_table.specs.Layout.{Partition, IsPartition, slot_count}
use Rattle.heap_theory.specs.{Sound.{IsSoundHeap}, State.{is_header_granule, first_memory, first_heap}, State.State.{Fresh}}
use Rattle.heap_theory.proofs.TheoryLemmas as laws

pub length-first_memory : (layout : Partition) → length (first_memory layout) ≡ layout.granules
unfolding first_memory
length-first_memory layout = length-map-range_with_len (λ g. cond (is_header_granule layout g) no_granule new_granule) 0 layout.granules

-- past the end of a memory there is no tag
tag_at-first_memory : (layout : Partition) (g : ℕ) → tag_at (first_memory layout) g ≡ 0
unfolding first_memory
tag_at-first_memory layout g = grind (arith, get_or-map-range_with_len, cond_both, tag_at_past, length-first_memory, cases_lt)

pub get_or-replicate_any : {A : Type 0} (n i : ℕ) (a : A) → get_or (replicate n a) i a ≡ a
get_or-replicate_any n i a = grind (arith, cases_lt, get_or-replicate, get_or_past, length-replicate)

pub IsSoundHeap-first : (layout : Partition) (seed quarantine : ℕ) → IsPartition layout →
    IsSoundHeap (first_heap layout seed quarantine)
unfolding first_heap
IsSoundHeap-first layout seed quarantine is =
    let order = laws.in_order 1 layout is.table in
    grind (arith, length-first_memory, length-replicate, fresh, none)
  where
    fresh : (s : ℕ) → get_or (replicate (slot_count layout) Fresh) s Fresh ≡ Fresh
    fresh s = get_or-replicate_any (slot_count layout) s Fresh

    none : (g : ℕ) → tag_at (first_memory layout) g ≡ 0
    none g = tag_at-first_memory layout g

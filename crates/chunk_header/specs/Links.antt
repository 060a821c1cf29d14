-- What changes when one link is set.
use Rattle.std.specs.Prelude.{◌≡◌, ℕ, ◌+◌, ◌*◌, List, length}
use Rattle.machine_theory.specs.{Memory.{Granule, IsMemory}, declared.sizes.TheConstants.{GRANULE_BYTES}}
use Rattle.granule_memory.specs.Changes.{ChangesOnlyBytes}
use Rattle.class_table.specs.Layout.{Partition, slot_of}
use Rattle.heap_theory.specs.Region.{region_of, with_slot_link}

-- The link of slot s is set to `next`. Of the region nothing else changes, and of the memory at most the first word of the slot's header.
pub record SetsLink (layout : Partition) (old new : List Granule) (s next : ℕ) : Type 0 where
  pub region : region_of layout new ≡ with_slot_link (region_of layout old) s next
  pub others : ChangesOnlyBytes old new (GRANULE_BYTES * (slot_of layout s).start) (GRANULE_BYTES * (slot_of layout s).start + 8)
  pub long : length new ≡ layout.granules
  pub memory : IsMemory new

-- What a `Layout` keeps.
use Rattle.std.specs.{List.{range_with_len}, Prelude.{◌≡◌, ◌+◌, ◌*◌, ◌^◌, ◌≤◌, length, map}}
use Rattle.class_table.specs.{Counts.{AreCounts}, Layout.{Partition, IsPartition, share_of, slot_count, first_slot}}
use Rattle.class_table.specs.declared.{counts.TheConstants.{COUNTS}, layout.Layout.TheInside.{Inside}, layout.TheConstants.{LARGEST_SHIFT}}

abbrev pub partition_of : Inside → Partition
partition_of layout = record { classes = layout.classes.items; granules = layout.granules }

-- The share of each class, and the first slots of all classes followed by the number of slots; and how many of both are at most some
-- numbers.
pub record IsLayout (layout : Inside) : Type 0 where
  pub partition : IsPartition (partition_of layout)
  pub share : layout.share ≡ share_of (partition_of layout)
  pub firsts : layout.firsts.items ≡ map (first_slot (partition_of layout)) (range_with_len 0 (length layout.classes.items + 1))
  pub class_counts : AreCounts layout.class_counts 1 layout.classes.items
  pub slot_counts : AreCounts layout.slot_counts (2 ^ layout.slot_shift) layout.firsts.items
  pub slot_shift : layout.slot_shift ≤ LARGEST_SHIFT
  pub reach : slot_count (partition_of layout) ≤ COUNTS * 2 ^ layout.slot_shift

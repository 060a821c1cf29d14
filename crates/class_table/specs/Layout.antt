-- How a region is divided into slots: each class has an equal share of its granules. The rule is this project's own, not Scudo's.
use Rattle.std.specs.List.{range_with_len}
use Rattle.std.specs.Prelude.{◌<◌, ◌≤◌, Bool, ◌&&◌, nat_le, nat_lt, List, [], ◌∷◌, ◌++◌, length, map, position, take, sum_by}
use Rattle.std.specs.Prelude.{slice_index_or, Option, ℕ, ◌+◌, ◌*◌, ◌/◌}
use Rattle.class_table.specs.{Sizes.{granule_bytes}, Tables.{IsLegalTable}, declared.layout.TheConstants.{FEWEST_GRANULES, MOST_GRANULES}}

-- A table, and the number of granules of the region that its classes share.
pub record Partition : Type 0 where
  pub classes : List ℕ
  pub granules : ℕ

-- The partitions that a heap may have.
pub record IsPartition (layout : Partition) : Type 0 where
  pub table : IsLegalTable 1 layout.classes
  pub least : FEWEST_GRANULES ≤ layout.granules
  pub most : layout.granules ≤ MOST_GRANULES

-- A slot: its first granule, which is its header, and its class, which is the number of its granules.
pub record Slot : Type 0 where
  pub start : ℕ
  pub class : ℕ

-- what `slot_of` gives for a number past the last slot
abbrev pub no_slot : Slot
no_slot = record { start = 0; class = 0 }

-- the first granule after a slot
abbrev pub end_of : Slot → ℕ
end_of slot = slot.start + slot.class

-- the bytes of a slot's block, its header among them
abbrev pub block_bytes : Slot → ℕ
block_bytes slot = granule_bytes * slot.class

-- ---- where slots lie

-- the granules that each class has
abbrev pub share_of : Partition → ℕ
share_of layout = layout.granules / length layout.classes

-- the slots of a class whose share begins at granule `first`: as many as fit, one after the other
abbrev pub slots_of_class : ℕ → ℕ → ℕ → List Slot
slots_of_class first share class = map (λ k. record { start = first + class * k; class = class }) (range_with_len 0 (share / class))

-- the slots of some classes, the first of which has its share from granule `first` on
unfoldable pub slots_of_classes : ℕ → ℕ → List ℕ → List Slot
slots_of_classes first share [] = []
slots_of_classes first share (class ∷ classes) = slots_of_class first share class ++ slots_of_classes (first + share) share classes

-- All slots of a region, numbered from 0 in address order. Its other granules are slack.
unfoldable pub slots_of : Partition → List Slot
slots_of layout = slots_of_classes 0 (share_of layout) layout.classes

abbrev pub slot_count : Partition → ℕ
slot_count layout = length (slots_of layout)

-- the slot of this number
abbrev pub slot_of : Partition → ℕ → Slot
slot_of layout s = slice_index_or (slots_of layout) s no_slot

-- the number of the first slot of the class of this number; for the number of classes itself, the number of slots
abbrev pub first_slot : Partition → ℕ → ℕ
first_slot layout number = sum_by (λ class. share_of layout / class) (take number layout.classes)

-- The class of this number is the slot's.
pub record IsClassOf (layout : Partition) (slot number : ℕ) : Type 0 where
  pub within : number < length layout.classes
  pub from : first_slot layout number ≤ slot
  pub to : slot < first_slot layout (number + 1)

-- ---- which slot covers a granule

pub record Covers (slot : Slot) (granule : ℕ) : Type 0 where
  pub from : slot.start ≤ granule
  pub to : granule < end_of slot

abbrev pub covers : Slot → ℕ → Bool
covers slot granule = nat_le slot.start granule && nat_lt granule (end_of slot)

-- The number of the slot that covers a granule, if one does.
unfoldable pub slot_over : Partition → ℕ → Option ℕ
slot_over layout granule = position (λ slot. covers slot granule) (slots_of layout)

-- ---- what is true of every layout

-- The slots are in address order, apart from one another and inside the region. Each has a payload.
pub record AreInOrder (layout : Partition) : Type 0 where
  pub inside : (s : ℕ) → s < slot_count layout → end_of (slot_of layout s) ≤ layout.granules
  pub wide : (s : ℕ) → s < slot_count layout → 2 ≤ (slot_of layout s).class
  pub apart : (s r : ℕ) → s < r → r < slot_count layout → end_of (slot_of layout s) ≤ (slot_of layout r).start

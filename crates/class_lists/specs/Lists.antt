-- A list that is read off a front and the links of a region.
use Rattle.std.specs.Prelude.{◌≡◌, ℕ, ◌+◌, ◌<◌, List, length, slice_index, slice_set, Contains}
use Rattle.machine_theory.specs.Memory.{Granule}
use Rattle.chunk_header.specs.Links.{SetsLink}
use Rattle.class_table.specs.Layout.{Partition}
use Rattle.heap_theory.specs.{Links.{IsLinked}, Region.{Region, next_in, region_of}}

-- From the link `front` on, the links show these slots in order and then end, and all of them are slots of the region.
pub record ShowsList (region : Region) (front : ℕ) (list : List ℕ) : Type 0 where
  pub linked : IsLinked (next_in region) front list
  pub slots : (s : ℕ) → Contains list s → s < length region.headers

-- Slot s is taken off the list of the class of this number: the front of the list was the link to the slot, and now it is the link that
-- the slot had. Of the memory only the slot's link changes: it becomes 0.
pub record TakesFirst (layout : Partition) (memory after : List Granule) (fronts fronts' : List ℕ) (number s : ℕ) : Type 0 where
  pub was : slice_index fronts number ≡ s + 1
  pub front : fronts' ≡ slice_set fronts number (next_in (region_of layout memory) s)
  pub link : SetsLink layout memory after s 0

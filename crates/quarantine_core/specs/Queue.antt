-- The quarantine: a queue of slots that is linked through their headers, and the bytes of their blocks.
use Rattle.std.specs.Prelude.{◌≡◌, ℕ, suc, ◌+◌, ◌-◌, ◌<◌, ◌==◌, if◌then◌else◌, List, ◌∷◌, drop, length, Contains}
use Rattle.machine_theory.specs.Memory.{Granule}
use Rattle.chunk_header.specs.Links.{SetsLink}
use Rattle.class_table.specs.Layout.{Partition, block_bytes, slot_count, slot_of}
use Rattle.heap_theory.specs.{Links.{IsLinked, last_link}, QueueAndLists.{bytes_of}, Region.{Region, next_in, region_of}}

-- What a quarantine keeps beside its slots' links: the links to the slot that was put in first and to the one that was put in last, or 0;
-- the header granule of the latter; the bytes of the blocks in it, and how many it may hold.
pub record Queue : Type 0 where
  pub front : ℕ
  pub back : ℕ
  pub back_start : ℕ
  pub held : ℕ
  pub limit : ℕ

-- From the front the links of a region show these slots of the layout, the one put in first at the front, and then end; the back is the
-- link to the last of them, whose header granule is kept, and what is held are the bytes of their blocks.
pub record AreQueued (value : Queue) (layout : Partition) (region : Region) (queue : List ℕ) : Type 0 where
  pub slots : (s : ℕ) → Contains queue s → s < slot_count layout
  pub linked : IsLinked (next_in region) value.front queue
  pub back : value.back ≡ last_link queue
  pub back_start : (last : ℕ) → value.back ≡ last + 1 → value.back_start ≡ (slot_of layout last).start
  pub held : value.held ≡ bytes_of layout queue

-- The links show some queue.
abbrev pub LinksStand : Queue → Partition → Region → Type 0
LinksStand value layout region = (queue : List ℕ) × AreQueued value layout region queue

-- the slot is not in the queue that the links show
abbrev pub IsOutside : Queue → Partition → Region → ℕ → Type 0
IsOutside value layout region slot = (queue : List ℕ) → AreQueued value layout region queue → Contains queue slot → ⊥

-- ---- what is made of it

-- with one more slot after the others, whose header granule this is
abbrev pub with_newest : Queue → ℕ → ℕ → ℕ → Queue
with_newest value slot start bytes = record {
  front = if value.back == 0 then suc slot else value.front;
  back = suc slot;
  back_start = start;
  held = value.held + bytes;
  limit = value.limit;
}

-- without the slot at the front, whose link was `next`
abbrev pub without_oldest : Queue → ℕ → ℕ → Queue
without_oldest value next bytes = record {
  front = next;
  back = if next == 0 then 0 else value.back;
  back_start = value.back_start;
  held = value.held - bytes;
  limit = value.limit;
}

-- ---- a slot is put in, and the oldest is taken out

-- Slot s can be put in: the memory has the layout's granules, and the links show a queue. The slot is of the layout and outside the queue,
-- its link is 0, and its block has n bytes.
pub record CanBePut (value : Queue) (layout : Partition) (memory : List Granule) (s n : ℕ) : Type 0 where
  pub region : length memory ≡ layout.granules
  pub linked : LinksStand value layout (region_of layout memory)
  pub slot : s < slot_count layout
  pub outside : IsOutside value layout (region_of layout memory) s
  pub next : next_in (region_of layout memory) s ≡ 0
  pub bytes : n ≡ block_bytes (slot_of layout s)

-- Slot s is taken out: it was the first of the queue, and the others stay in it. The bytes of its block are no longer held. Of the memory
-- only its link changes: it becomes 0. So each list without it stays linked.
pub record TakesOldest (old new : Queue) (layout : Partition) (memory after : List Granule) (s : ℕ) : Type 0 where
  pub slot : s < slot_count layout
  pub first : (queue : List ℕ) → AreQueued old layout (region_of layout memory) queue → queue ≡ s ∷ drop 1 queue
  pub queued : (queue : List ℕ) → AreQueued old layout (region_of layout memory) (s ∷ queue) →
      AreQueued new layout (region_of layout after) queue
  pub value : new ≡ without_oldest old (next_in (region_of layout memory) s) (block_bytes (slot_of layout s))
  pub held : new.held + block_bytes (slot_of layout s) ≡ old.held
  pub link : SetsLink layout memory after s 0
  pub others : (front : ℕ) (list : List ℕ) → (Contains list s → ⊥) → IsLinked (next_in (region_of layout memory)) front list →
      IsLinked (next_in (region_of layout after)) front list

-- A memory with the layout of its slots, seen as two things: the headers of the slots, and the granules without the bytes of headers.
use Rattle.std.specs.{List.{range_with_len}, Prelude.{ℕ, List, map, slice_index_or, slice_set}}
use Rattle.machine_theory.specs.Memory.{Granule}
use Rattle.class_table.specs.Layout.{Partition, slot_count, slot_of}
use Rattle.heap_theory.specs.{Header.{Header, header_at}, Header.Standing.{Fresh}, State.{without_headers}}

pub record Region : Type 0 where
  pub headers : List Header  -- one for each slot
  pub granules : List Granule  -- without the bytes of headers

-- the header that a memory has for each slot of a layout
unfoldable pub headers_of : Partition → List Granule → List Header
headers_of layout memory = map (λ s. header_at memory (slot_of layout s).start) (range_with_len 0 (slot_count layout))

abbrev pub region_of : Partition → List Granule → Region
region_of layout memory = record { headers = headers_of layout memory; granules = without_headers layout memory }

-- what a slot past the last one has
abbrev pub no_header : Header
no_header = record { standing = Fresh; size = 0; tag = 0; class = 0; next = 0; mark = 0 }

abbrev pub header_in : Region → ℕ → Header
header_in region s = slice_index_or region.headers s no_header

-- the link in the header of a slot
abbrev pub next_in : Region → ℕ → ℕ
next_in region s = (header_in region s).next

-- with another header of a slot
abbrev pub with_slot_header : Region → ℕ → Header → Region
with_slot_header region s header = record region { headers = slice_set region.headers s header }

-- with another link in the header of a slot
abbrev pub with_slot_link : Region → ℕ → ℕ → Region
with_slot_link region s next = with_slot_header region s (record (header_in region s) { next = next })

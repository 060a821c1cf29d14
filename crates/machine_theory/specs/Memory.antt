-- Tagged memory (Arm ARM DDI 0487, Memory Tagging Extension: an Allocation Tag of four bits for each granule of sixteen bytes).
-- Granules and bytes are numbered from the region's start: granule g holds the bytes 16 g to 16 g + 15.
use Rattle.std.specs.{Int.{w64, from_le_bytes}, List.{range_with_len}}
use Rattle.std.specs.Prelude.{nat_le, if◌then◌else◌, List, [], map, length, replicate, slice_index, slice_index_or, All, ◌≡◌, ℕ, ◌+◌, ◌-◌}
use Rattle.std.specs.Prelude.{◌*◌, ◌/◌, ◌%◌, ◌<◌, ◌≤◌, Bool, ◌&&◌, nat_lt}
use Rattle.machine_theory.specs.declared.sizes.TheConstants.{FEWEST_GRANULES, GRANULE_BYTES, MOST_GRANULES}

-- a granule: its Allocation Tag and its bytes
pub record Granule : Type 0 where
  pub tag : ℕ
  pub bytes : List ℕ

pub record IsGranule (granule : Granule) : Type 0 where
  pub tag : granule.tag < 16
  pub sixteen : length granule.bytes ≡ GRANULE_BYTES
  pub bytes : All (λ b. b < 256) granule.bytes

-- the memories that the machine may have (their sizes are this project's own)
pub record IsMemory (memory : List Granule) : Type 0 where
  pub least : FEWEST_GRANULES ≤ length memory
  pub most : length memory ≤ MOST_GRANULES
  pub granules : All IsGranule memory

-- a granule as a new memory has it
abbrev pub new_granule : Granule
new_granule = record { tag = 0; bytes = replicate GRANULE_BYTES 0 }

-- the granule past the end of a memory
abbrev pub no_granule : Granule
no_granule = record { tag = 0; bytes = [] }

-- ---- what is read

abbrev pub granule_at : List Granule → ℕ → Granule
granule_at memory g = slice_index_or memory g no_granule

-- the Allocation Tag of granule g
abbrev pub tag_at : List Granule → ℕ → ℕ
tag_at memory g = (granule_at memory g).tag

-- byte i of the memory
abbrev pub byte_at : List Granule → ℕ → ℕ
byte_at memory i = slice_index (granule_at memory (i / GRANULE_BYTES)).bytes (i % GRANULE_BYTES)

-- `len` bytes from byte i on
unfoldable pub bytes_at : List Granule → ℕ → ℕ → List ℕ
bytes_at memory i len = map (λ j. byte_at memory j) (range_with_len i len)

-- the number of 64 bits that eight bytes from byte i on spell, the lowest first
unfoldable pub word_at : List Granule → ℕ → ℕ
word_at memory i = from_le_bytes w64 (bytes_at memory i 8)

-- ---- what is changed

-- the memory with each granule as `change` makes it of the granule's number and the granule
unfoldable pub each_granule : (ℕ → Granule → Granule) → List Granule → List Granule
each_granule change memory = map (λ g. change g (granule_at memory g)) (range_with_len 0 (length memory))

-- whether a number is one of `count` from `first` on
abbrev pub is_among : ℕ → ℕ → ℕ → Bool
is_among first count n = nat_le first n && nat_lt n (first + count)

-- the memory in which `count` granules from `first` on have the tag, and all else is the same
unfoldable pub tagged : ℕ → ℕ → ℕ → List Granule → List Granule
tagged first count tag memory = each_granule (λ g granule. if is_among first count g then record granule { tag = tag } else granule) memory

-- byte j, that was `old`, once `new` is written from byte i on
abbrev pub byte_after : ℕ → List ℕ → ℕ → ℕ → ℕ
byte_after i new j old = if is_among i (length new) j then slice_index new (j - i) else old

-- the bytes of granule g, once `new` is written from byte i on
abbrev pub bytes_after : ℕ → List ℕ → ℕ → List ℕ → List ℕ
bytes_after i new g bytes = map (λ k. byte_after i new (GRANULE_BYTES * g + k) (slice_index bytes k)) (range_with_len 0 (length bytes))

-- the memory in which `new` stands from byte i on, and all else is the same
unfoldable pub written : ℕ → List ℕ → List Granule → List Granule
written i new memory = each_granule (λ g granule. record granule { bytes = bytes_after i new g granule.bytes }) memory

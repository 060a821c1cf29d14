-- Accesses, checked (Arm ARM DDI 0487, Memory Tagging Extension: Tag Checked accesses, synchronous exceptions) and unchecked.
-- Which accesses are mapped, that this is tested first, and which granule a tag fault names are this project's own.
use Rattle.machine_theory.specs.{Address.{logical_tag, place_of, region_start, byte_of, granule_of, Touches}, declared.fault.Fault.{Fault}}
use Rattle.machine_theory.specs.{Memory.{Granule, tag_at, bytes_at, written}, declared.fault.Fault.TheVariants.{Unmapped, TagCheck}}
use Rattle.machine_theory.specs.declared.sizes.TheConstants.{GRANULE_BYTES}
use Rattle.std.specs.List.{range_with_len}
use Rattle.std.specs.Prelude.{◌&&◌, ◌==◌, nat_lt, nat_le, if◌then◌else◌, List, find, length, Option, Some, None, option_map, Result, Ok}
use Rattle.std.specs.Prelude.{Err, ◌≡◌, ◌≢◌, ℕ, ◌+◌, ◌-◌, ◌*◌, ◌^◌, ◌<◌, ◌≤◌, Bool, not}

-- whether each byte of the access lies in the region of this many granules, and bits 63 to 60 of the address are 0
abbrev pub is_mapped : ℕ → ℕ → ℕ → Bool
is_mapped granules address len =
    nat_lt address (2 ^ 60) && nat_le region_start (place_of address)
    && nat_le (place_of address + len) (region_start + GRANULE_BYTES * granules)

-- the granules that a mapped access of one byte or more touches: from the one of its first byte to the one of its last
abbrev pub touched : ℕ → ℕ → List ℕ
touched address len =
    range_with_len (granule_of (place_of address)) (granule_of (place_of address + len - 1) + 1 - granule_of (place_of address))

-- the first of these granules whose tag is not the pointer's, as a fault
abbrev pub tag_fault : List Granule → ℕ → List ℕ → Option Fault
tag_fault memory tag granules = option_map (λ g. TagCheck g (tag_at memory g) tag) (find (λ g. not (tag_at memory g == tag)) granules)

-- the fault of a checked access, or None where it succeeds
unfoldable pub access_fault : List Granule → ℕ → ℕ → Option Fault
access_fault memory address len =
    if is_mapped (length memory) address len then tag_fault memory (logical_tag address) (touched address len) else Some Unmapped

-- the result of a call that has this fault, if any
abbrev pub ok_unless : Option Fault → Result (Unit {0}) Fault
ok_unless None = Ok tt
ok_unless (Some fault) = Err fault

-- the bytes that a load reads where it succeeds
abbrev pub loaded : List Granule → ℕ → ℕ → List ℕ
loaded memory address len = bytes_at memory (byte_of (place_of address)) len

-- the memory that a store leaves where it succeeds
abbrev pub stored : List Granule → ℕ → List ℕ → List Granule
stored memory address bytes = written (byte_of (place_of address)) bytes memory

-- ---- what the tests say

pub record IsMapped (granules address len : ℕ) : Type 0 where
  pub plain : address < 2 ^ 60
  pub from : region_start ≤ place_of address
  pub to : place_of address + len ≤ region_start + GRANULE_BYTES * granules

-- the granule that a tag fault names is the least that the access touches whose tag is not the pointer's
pub record IsTagFault (memory : List Granule) (address len g memory_tag pointer_tag : ℕ) : Type 0 where
  pub mapped : IsMapped (length memory) address len
  pub touches : Touches address len g
  pub memory_tag_is : memory_tag ≡ tag_at memory g
  pub pointer_tag_is : pointer_tag ≡ logical_tag address
  pub differs : memory_tag ≢ pointer_tag
  pub least : (k : ℕ) → Touches address len k → tag_at memory k ≢ logical_tag address → g ≤ k

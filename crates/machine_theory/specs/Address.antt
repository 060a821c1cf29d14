-- Addresses of 64 bits, with a Logical Address Tag in bits 59 to 56 (Arm ARM DDI 0487, Memory Tagging Extension).
-- Places and the region, of granules of sixteen bytes from place 2 ^ 36 on, are this project's own.
use Rattle.std.specs.Prelude.{ℕ, suc, ◌+◌, ◌-◌, ◌*◌, ◌/◌, ◌%◌, ◌^◌, ◌<◌, ◌≤◌, ℤ, pos, negsuc}
use Rattle.machine_theory.specs.declared.sizes.TheConstants.{GRANULE_BYTES, REGION_START}

-- bits 59 to 56 (Arm ARM: AArch64.AllocationTagFromAddress)
abbrev pub logical_tag : ℕ → ℕ
logical_tag address = address / 2 ^ 56 % 16

-- bits 55 to 0
abbrev pub place_of : ℕ → ℕ
place_of address = address % 2 ^ 56

-- the address with this tag in place of its own (Arm ARM: AArch64.AddressWithAllocationTag)
abbrev pub with_tag : ℕ → ℕ → ℕ
with_tag address tag = address / 2 ^ 60 * 2 ^ 60 + tag * 2 ^ 56 + place_of address

-- the address this many bytes further on, modulo 2 ^ 64
abbrev pub moved_by : ℕ → ℤ → ℕ
moved_by address (pos n) = (address + n) % 2 ^ 64
moved_by address (negsuc n) = (address + (2 ^ 64 - suc n)) % 2 ^ 64

-- the address rounded down to a multiple of sixteen
abbrev pub aligned : ℕ → ℕ
aligned address = address - address % GRANULE_BYTES

-- the place at which the region begins
abbrev pub region_start : ℕ
region_start = REGION_START

-- the number of the byte at a place of the region
abbrev pub byte_of : ℕ → ℕ
byte_of place = place - region_start

-- the number of the granule that holds a place of the region
abbrev pub granule_of : ℕ → ℕ
granule_of place = byte_of place / GRANULE_BYTES

-- the place is one of the granule's sixteen
pub record Holds (granule place : ℕ) : Type 0 where
  pub from : region_start + GRANULE_BYTES * granule ≤ place
  pub to : place < region_start + GRANULE_BYTES * granule + GRANULE_BYTES

-- an access of `len` bytes has one of them in the granule
abbrev pub Touches : ℕ → ℕ → ℕ → Type 0
Touches address len granule = (i : ℕ) × (i < len) × Holds granule (place_of address + i)

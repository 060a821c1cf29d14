-- Requests and classes. A request is a number of bytes; a class is a block size in granules of 16 bytes, one of them for the block's
-- header.
use Rattle.std.specs.Prelude.{ℕ, ◌+◌, ◌-◌, ◌*◌, ◌/◌, ◌≤◌, Bool, nat_le, max, List, filter}
use Rattle.class_table.specs.declared.sizes.TheConstants.{GRANULE_BYTES, LARGEST_CLASS, LARGEST_COUNTED, SMALLEST_CLASS}

-- the bytes of a granule
abbrev pub granule_bytes : ℕ
granule_bytes = GRANULE_BYTES

-- A size that a block may have, in granules.
abbrev pub IsBlockSize : ℕ → Type 0
IsBlockSize granules = (SMALLEST_CLASS ≤ granules) × (granules ≤ LARGEST_CLASS)

-- the largest request that is counted, in bytes: what the largest class serves
abbrev pub largest_counted : ℕ
largest_counted = LARGEST_COUNTED

-- Those of these sizes that are counted.
abbrev pub counted_of : List ℕ → List ℕ
counted_of sizes = filter (λ n. nat_le n largest_counted) sizes

-- The granules that a request of n bytes has as its chunk: at least one.
abbrev pub chunk_granules : ℕ → ℕ
chunk_granules n = max 1 ((n + (granule_bytes - 1)) / granule_bytes)

-- The granules that it needs: one for the header, and its chunk.
abbrev pub need_of : ℕ → ℕ
need_of n = 1 + chunk_granules n

-- Whether a block of a class holds n bytes beside its header.
abbrev pub serves : ℕ → ℕ → Bool
serves n class = nat_le n (granule_bytes * class - granule_bytes)

-- The bytes of a block that a request of n bytes leaves unused.
abbrev pub loss_of : ℕ → ℕ → ℕ
loss_of n class = granule_bytes * class - granule_bytes - n

-- What stays the same when one header is written.
use Rattle.std.specs.Prelude.{◌≡◌, ◌≢◌, ℕ, ◌+◌, ◌*◌, List}
use Rattle.machine_theory.specs.{Memory.{Granule, IsMemory}, declared.sizes.TheConstants.{GRANULE_BYTES}}
use Rattle.granule_memory.specs.Changes.{ChangesOnlyBytes}
use Rattle.heap_theory.specs.Header.{Header, header_at, with_header}

-- The header in granule g becomes this one: no other header and no tag changes, and of all bytes at most the first n of the granule.
pub record WritesHeader (old new : List Granule) (g n : ℕ) (header : Header) : Type 0 where
  pub written : new ≡ with_header old g header
  pub read : header_at new g ≡ header
  pub headers : (k : ℕ) → k ≢ g → header_at new k ≡ header_at old k
  pub others : ChangesOnlyBytes old new (GRANULE_BYTES * g) (GRANULE_BYTES * g + n)
  pub memory : IsMemory new

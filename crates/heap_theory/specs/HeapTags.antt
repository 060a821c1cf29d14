-- The tags of chunks and addresses, and what they keep apart.
use Rattle.std.specs.Prelude.{◌≡◌, ◌≢◌, ◌⊎◌, ℕ, ◌+◌, ◌%◌, length, IsFalse}
use Rattle.machine_theory.specs.{Access.{is_mapped}, Address.{logical_tag}, Memory.{tag_at}}
use Rattle.heap_theory.specs.{GranuleKinds.{IsChunkGranule}, State.{Heap}}

-- ---- chunks

-- one of two slot numbers is even, and the other odd
abbrev pub HaveOtherParity : ℕ → ℕ → Type 0
HaveOtherParity s r = (s + r) % 2 ≡ 1

-- No granule of a chunk has tag 0.
abbrev pub ChunksAreTagged : Heap → Type 0
ChunksAreTagged heap = (s g : ℕ) → IsChunkGranule heap s g → tag_at heap.memory g ≢ 0

-- Chunk granules of an even slot and of an odd one never have the same tag.
abbrev pub ParitiesDiffer : Heap → Type 0
ParitiesDiffer heap =
    (s r g k : ℕ) → HaveOtherParity s r → IsChunkGranule heap s g → IsChunkGranule heap r k →
    tag_at heap.memory g ≢ tag_at heap.memory k

-- ---- addresses

-- The address is null, or has a tag other than 0.
abbrev pub IsNullOrTagged : ℕ → Type 0
IsNullOrTagged address = (address ≡ 0) ⊎ (logical_tag address ≢ 0)

-- The address has a tag other than 0, or the access of `len` bytes is not mapped. If such an access succeeds, it touches no header, since
-- headers have tag 0.
abbrev pub IsTaggedOrUnmapped : Heap → ℕ → ℕ → Type 0
IsTaggedOrUnmapped heap address len = (logical_tag address ≢ 0) ⊎ IsFalse (is_mapped (length heap.memory) address len)

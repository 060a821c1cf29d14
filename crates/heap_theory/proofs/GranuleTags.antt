-- Which tags the granules of a sound heap have.
use Rattle.std.proofs.Common.{◌≡◌, ◌⊎◌, ℕ, ◌<◌, refl, sym, ◌∙◌, arith, Some, None, Option}
use Rattle.std.proofs.lemmas.Bool.{cases_lt, eqb-false}
use Rattle.machine_theory.specs.Memory.{tag_at}
use Rattle.class_table.{proofs.LawLemmas.{one_slot_covers}, specs.Layout.{Covers, slot_over}}
use Rattle.heap_theory.specs.GranuleKinds.{IsBookkeeping, IsChunkGranule, IsPayloadGranule, kind_at}
use Rattle.heap_theory.specs.{GranuleKinds.{place_kind}, HeapTags.{ChunksAreTagged, ParitiesDiffer}}
use Rattle.heap_theory.specs.Sound.{IsTagOf, IsTaggedSlot, IsSoundHeap}
use Rattle.heap_theory.specs.State.{Heap, slot_in, state_at}

-- ---- bookkeeping granules have tag 0

pub bookkeeping_tag : (h : Heap) (g : ℕ) → IsSoundHeap h → IsBookkeeping (place_kind h g) → tag_at h.memory g ≡ 0
unfolding place_kind
bookkeeping_tag h g sound book = by_slot (slot_over h.layout g) refl book
  where
    by_slot : (o : Option ℕ) → slot_over h.layout g ≡ o → IsBookkeeping (kind_at h o g) → tag_at h.memory g ≡ 0
    by_slot None was book =
        sound.slack g (λ s within c. let some = sym was ∙ (one_slot_covers 1 h.layout g s sound.partition.table).1 (within, c) in absurd cc)
    by_slot (Some s) was book =
        let at = (one_slot_covers 1 h.layout g s sound.partition.table).0 was in grind (arith, eqb-false)

-- ---- the tags of payloads

-- a granule of a payload has tag 0, or a tag that its slot may take
pub payload_tag : (h : Heap) (r g : ℕ) → IsSoundHeap h → IsPayloadGranule h r g → (tag_at h.memory g ≡ 0) ⊎ IsTagOf r (tag_at h.memory g)
payload_tag h r g sound p = grind (arith, cases_lt)

-- a granule of a slot has tag 0, or it is of the chunk and has its tag
pub covered_tag : (h : Heap) (s g : ℕ) (t : IsTaggedSlot h.memory s (slot_in h s) (state_at h s)) → Covers (slot_in h s) g →
    (tag_at h.memory g ≡ 0) ⊎ (tag_at h.memory g ≡ t.chunk_tag)
covered_tag h s g t c = grind (arith, cases_lt)

-- ---- the tags of chunks

pub chunk_has_tag : (h : Heap) (s g : ℕ) → IsSoundHeap h → IsChunkGranule h s g → IsTagOf s (tag_at h.memory g)
chunk_has_tag h s g sound c = grind arith

pub chunks_tagged : (h : Heap) → IsSoundHeap h → ChunksAreTagged h
chunks_tagged h sound s g c none = let some : 0 < tag_at h.memory g = (chunk_has_tag h s g sound c).not_zero in omega arith

pub parities_differ : (h : Heap) → IsSoundHeap h → ParitiesDiffer h
parities_differ h sound s r g k parity c d same = grind (arith, chunk_has_tag)

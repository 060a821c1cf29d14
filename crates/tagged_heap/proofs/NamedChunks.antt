-- The chunk that a pointer names.
use Rattle.std.proofs.Common.{◌≡◌, ◌≢◌, ℕ, ◌^◌, ◌<◌, ap, Ok, Err, arith}
use Rattle.std.proofs.{lemmas.Bool.{cond-true, cond-false, eq-eqb, ne_eqb}}
use Rattle.machine_theory.specs.Address.{logical_tag, place_of}
use Rattle.heap_theory.specs.{Header.{Header}, Header.Standing.{Live as IsLive}, Sound.{IsSoundHeap}}
use Rattle.heap_theory.specs.{Lookups.{chunk_at, chunk_in, chunk_in_slot}, State.State.{Live}}
use Rattle.heap_theory.specs.State.{Heap, slot_in, state_at, payload_place, IsSlot}
use Rattle.heap_theory.specs.declared.refusal.FreeError.TheVariants.{Misplaced, NotLive, WrongTag}
use Rattle.tagged_heap.specs.Representation.{header_from}
use Rattle.tagged_heap.proofs.TheoryLemmas as laws

-- a slot has its payload where the pointer points
abbrev pub Names : Heap → ℕ → ℕ → Type 0
Names h p s = IsSlot h s × (p < 2 ^ 60) × (place_of p ≡ payload_place (slot_in h s))

pub misplaced : (h : Heap) (p : ℕ) → IsSoundHeap h →
    ((s : ℕ) → IsSlot h s → p < 2 ^ 60 → place_of p ≡ payload_place (slot_in h s) → ⊥) → chunk_at h p ≡ Err Misplaced
unfolding chunk_at
misplaced h p sound none = grind (arith, laws.pointer)

module _ (h : Heap) (p s from next : ℕ) {header : Header} (sound : IsSoundHeap h) (names : Names h p s)
    (shows : header ≡ header_from h.layout from s (state_at h s) next) where
  chunk_is : chunk_at h p ≡ chunk_in p s (state_at h s)
  unfolding chunk_at
  chunk_is = ap (chunk_in_slot h p) ((laws.pointer h p s sound).1 names)

  pub chunk_not_live : header.standing ≢ IsLive → chunk_at h p ≡ Err NotLive
  chunk_not_live not = grind (arith, chunk_is)

  pub live : header.standing ≡ IsLive → state_at h s ≡ Live header.size header.tag
  live standing = grind arith

  pub chunk_wrong_tag : header.standing ≡ IsLive → logical_tag p ≢ header.tag → chunk_at h p ≡ Err WrongTag
  chunk_wrong_tag standing differs = grind (arith, chunk_is, live, cond-false, ne_eqb)

  pub chunk_live : header.standing ≡ IsLive → logical_tag p ≡ header.tag → chunk_at h p ≡ Ok (record { slot = s; size = header.size })
  chunk_live standing same = grind (arith, chunk_is, live, cond-true, eq-eqb)

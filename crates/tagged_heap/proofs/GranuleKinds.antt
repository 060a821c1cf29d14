-- What a granule is, by the header of the slot over it.
use Rattle.std.proofs.Common.{◌≡◌, ◌≢◌, ℕ, ◌+◌, ◌<◌, ◌≤◌, cond, sym, ap, arith, Some, None}
use Rattle.std.proofs.lemmas.Bool.{cond-true, cond-false, eq-eqb, ne_eqb, le-leb}
use Rattle.machine_theory.specs.Memory.{is_among}
use Rattle.class_table.specs.{Layout.{slot_over}, Sizes.{chunk_granules, largest_counted}}
use Rattle.heap_theory.{proofs.HeaderWords.{size_of-most}, specs.GranuleKinds.{place_kind, kind_at, kind_of_chunk}}
use Rattle.heap_theory.specs.{Header.{Header as TheHeader, Standing, size_of}, Region.{region_of, header_in}}
use Rattle.heap_theory.specs.Header.Standing.{Fresh as IsFresh, Live as IsLive, Quarantined as IsQuarantined, Freed as IsFreed}
use Rattle.heap_theory.specs.State.{Heap, slot_in, state_at, chunk_granules_of, payload_start, IsSlot}
use Rattle.heap_theory.specs.{declared.place_kind.PlaceKind.{PlaceKind}}
use Rattle.heap_theory.specs.declared.place_kind.PlaceKind.TheVariants.{Slack, Header, Tail, Dead as DeadChunk, Other}
use Rattle.tagged_heap.{proofs.Kept.{class_most}, specs.Representation.{Parts, IsKept}}
use Rattle.tagged_heap.proofs.TheoryLemmas as laws

pub kind_outside : (h : Heap) (g : ℕ) → slot_over h.layout g ≡ None → Slack ≡ place_kind h g
unfolding place_kind
kind_outside h g none = ap (λ o. kind_at h o g) (sym none)

-- the granules of a chunk, by how its slot stands
abbrev pub kind_by : Standing → PlaceKind
kind_by IsFresh = Tail
kind_by IsLive = Other
kind_by IsQuarantined = DeadChunk
kind_by IsFreed = DeadChunk

-- a granule of slot s, so many granules from its first one
module _ {h : Heap} {p : Parts} (k : IsKept h p) {g s : ℕ} (before : ℕ) (there : slot_over h.layout g ≡ Some s)
    (at : (slot_in h s).start + before ≡ g) where
  pub in_range : IsSlot h s
  in_range = ((laws.covers 1 h.layout g s k.sound.partition.table).0 there).0

  pub start_kind : before ≡ 0 → Header ≡ place_kind h g
  unfolding place_kind
  start_kind none = grind (arith, cond-true, eq-eqb)

  size_is : (header_in (region_of h.layout p.memory) s).size ≡ size_of (state_at h s)
  size_is = ap (λ (x : TheHeader). x.size) (k.headers.headers s in_range)

  pub size_few : (header_in (region_of h.layout p.memory) s).size ≤ largest_counted
  size_few = grind (arith, class_most, in_range, size_is, size_of-most)

  module _ (other : before ≢ 0) where
    payload_kind : cond (is_among (payload_start (slot_in h s)) (chunk_granules_of (state_at h s)) g) (kind_of_chunk (state_at h s)) Tail ≡
        place_kind h g
    unfolding place_kind
    payload_kind = grind (arith, cond-false, ne_eqb)

    pub tail_kind : chunk_granules (header_in (region_of h.layout p.memory) s).size < before → Tail ≡ place_kind h g
    tail_kind after = grind (arith, size_is, payload_kind)

    pub chunk_granule_kind : before ≤ chunk_granules (header_in (region_of h.layout p.memory) s).size →
        kind_by (header_in (region_of h.layout p.memory) s).standing ≡ place_kind h g
    chunk_granule_kind within = grind (arith, le-leb, in_range, payload_kind)

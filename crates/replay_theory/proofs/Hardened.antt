-- What hardens the heap, in a sound run.
use Rattle.std.proofs.Common.{◌≡◌, ◌≢◌, ℕ, ◌+◌, ◌-◌, ◌*◌, ◌%◌, ◌^◌, ◌<◌, ◌≤◌, length, refl, sym, ◌∙◌, subst, inl, inr, arith, ℤ}
use Rattle.machine_theory.specs.{Address.{logical_tag, place_of, region_start, Touches}, Memory.{tag_at}}
use Rattle.class_table.specs.Layout.{end_of}
use Rattle.replay_theory.specs.Hardening.{IsAccess, Faults, HasGeneration, WasFreed, NullOrTagged, BookkeepingOutOfReach, InsideSucceeds}
use Rattle.replay_theory.specs.Hardening.{NeighboursFault, FreedFaults, ChunkTagsNotZero, ChunkTagsDiffer, LiveVariablesAreAccepted}
use Rattle.replay_theory.specs.{Replay.{variable}, Run.{Run}, SoundRun.{IsAddressOf, IsSoundRun}}
use Rattle.heap_theory.proofs.GranuleTags.{bookkeeping_tag, payload_tag, covered_tag, chunks_tagged, parities_differ}
use Rattle.heap_theory.proofs.{HeapKept.{in_region}, OwnPointers.{free_accepts, realloc_accepts}}
use Rattle.heap_theory.specs.{GranuleKinds.{IsChunkGranule}, Sound.{IsTagOf, IsTaggedSlot}, State.State.{Fresh, Live, Dead}}
use Rattle.heap_theory.specs.State.{State, IsLive, slot_in, state_at, chunk_granules_of, payload_place}
use Rattle.replay_theory.proofs.TheoryLemmas as laws

pub null_or_tagged : (w : Run) → IsSoundRun w → NullOrTagged w
null_or_tagged w sound v = (sound.variables v).null_or_tagged

pub chunk_tags_not_zero : (w : Run) → IsSoundRun w → ChunkTagsNotZero w
chunk_tags_not_zero w sound = chunks_tagged w.replay.heap sound.heap

pub chunk_tags_of_two : (w : Run) → IsSoundRun w → ChunkTagsDiffer w
chunk_tags_of_two w sound = parities_differ w.replay.heap sound.heap

module _ (w : Run) (sound : IsSoundRun w) where
  small : length w.replay.heap.memory ≤ 262144
  small = subst (λ n. n ≤ 262144) (sym sound.heap.long) sound.heap.partition.most

  -- ---- an access has the variable's tag

  near_region : (len address g : ℕ) → len ≤ 64 → g < length w.replay.heap.memory → Touches address len g → place_of address < 2 ^ 37
  near_region len address g few within t = grind (arith, small)

  same_tag : (v : ℕ) (off : ℤ) (len address g : ℕ) → IsAccess w v off len address → g < length w.replay.heap.memory →
      Touches address len g →
      logical_tag address ≡ logical_tag (variable w.replay v)
  same_tag v off len address g a within t = grind (arith, near_region, laws.moved_tag)

  -- so it is a fault where it touches a granule of another tag
  other_tag_faults : (v : ℕ) (off : ℤ) (len address g : ℕ) → IsAccess w v off len address → g < length w.replay.heap.memory →
      Touches address len g →
      tag_at w.replay.heap.memory g ≢ logical_tag (variable w.replay v) → Faults w address len
  other_tag_faults v off len address g a within t differs = grind (arith, laws.other_tag_faults, same_tag)

  null_never_touches : (v : ℕ) (off : ℤ) (len address g : ℕ) → IsAccess w v off len address → g < length w.replay.heap.memory →
      Touches address len g → variable w.replay v ≡ 0 → ⊥
  null_never_touches v off len address g a within t null = grind (arith, near_region, laws.moved_null)

  -- ---- bookkeeping

  pub bookkeeping_out_of_reach : BookkeepingOutOfReach w
  bookkeeping_out_of_reach v off len address g a within t book = grind (arith, null_never_touches, other_tag_faults, bookkeeping_tag)

  -- ---- neighbours

  address_of : (v s time : ℕ) → HasGeneration w v s time → IsAddressOf w.replay.heap w.times (variable w.replay v) s time
  address_of v s time generation = grind arith

  pub neighbours_fault : NeighboursFault w
  neighbours_fault v off len address s time r g a generation parity p t =
      let i = address_of v s time generation in
      let own : IsTagOf s (logical_tag (variable w.replay v)) = i.tag in
      let some : 0 < logical_tag (variable w.replay v) = own.not_zero in
      let own_parity : (s + logical_tag (variable w.replay v)) % 2 ≡ 1 = own.other_parity in
      let inside = in_region w.replay.heap r sound.heap p.in_range in
      let to : g < end_of (slot_in w.replay.heap r) = p.to in
      other_tag_faults v off len address g a (omega arith) t (λ same. elim (payload_tag w.replay.heap r g sound.heap p) [
        | inl none ↦ omega arith
        | inr other ↦ let other_parity : (r + tag_at w.replay.heap.memory g) % 2 ≡ 1 = other.other_parity in omega arith
      ])

  -- ---- freed

  pub freed_faults : FreedFaults w
  freed_faults v off len address s time g a generation freed c t =
      let i = address_of v s time generation in
      let tagged : IsTaggedSlot w.replay.heap.memory s (slot_in w.replay.heap s) (state_at w.replay.heap s) =
      sound.heap.tagged s i.in_range in
      let some : 0 < logical_tag (variable w.replay v) = i.tag.not_zero in
      let inside = in_region w.replay.heap s sound.heap i.in_range in
      let to : g < end_of (slot_in w.replay.heap s) = c.to in
      other_tag_faults v off len address g a (omega arith) t (λ same. elim (covered_tag w.replay.heap s g tagged c) [
        | inl none ↦ omega arith
        | inr chunk ↦ differs i tagged freed (sym chunk ∙ same)
      ])
    where
      -- a dead slot's chunk has another tag than it was last given out with, and one that is live again another than the time before
      differs : IsAddressOf w.replay.heap w.times (variable w.replay v) s time →
          (tagged : IsTaggedSlot w.replay.heap.memory s (slot_in w.replay.heap s) (state_at w.replay.heap s)) →
          WasFreed w s time → tagged.chunk_tag ≡ logical_tag (variable w.replay v) → ⊥
      differs i tagged (inl dead) same = grind arith
      differs i tagged (inr live) same = grind arith

  -- ---- inside

  pub inside_succeeds : InsideSucceeds w
  inside_succeeds v off len address s time a generation live within =
      let i = address_of v s time generation in
      let tagged : IsTaggedSlot w.replay.heap.memory s (slot_in w.replay.heap s) (state_at w.replay.heap s) =
      sound.heap.tagged s i.in_range in
      let region_small = small in
      let inside = in_region w.replay.heap s sound.heap i.in_range in
      let room : chunk_granules_of (state_at w.replay.heap s) < (slot_in w.replay.heap s).class = tagged.room in
      let chunk_tag : tagged.chunk_tag ≡ logical_tag (variable w.replay v) = live_tag i tagged (state_at w.replay.heap s) refl live.live in
      let some : 0 < len = a.some in
      let few : len ≤ 64 = a.few in
      let first = within 0 some in
      let first_from : region_start + 16 * first.0 ≤ place_of address + 0 = first.2.from in
      let first_to : place_of address + 0 < region_start + 16 * first.0 + 16 = first.2.to in
      let first_low : first.0 ≤ (slot_in w.replay.heap s).start + chunk_granules_of (state_at w.replay.heap s) = first.1.to in
      let last = within (len - 1) (omega arith) in
      let last_to : place_of address + (len - 1) < region_start + 16 * last.0 + 16 = last.2.to in
      let last_low : last.0 ≤ (slot_in w.replay.heap s).start + chunk_granules_of (state_at w.replay.heap s) = last.1.to in
      let near : place_of address < 2 ^ 37 = omega arith in
      let place_low : payload_place (slot_in w.replay.heap s) < 2 ^ 56 = omega arith in
      let low : variable w.replay v < 2 ^ 60 =
      omega arith in
      laws.same_tags_succeed w.replay.heap.memory address len some
      (record {
        plain = subst (λ x. x < 2 ^ 60) (sym a.address_is) (laws.moved_plain (variable w.replay v) off a.near low
            (subst (λ x. region_start ≤ place_of x) a.address_is (omega arith)) (subst (λ x. place_of x < 2 ^ 37) a.address_is near));
        from = omega arith;
        to = omega arith;
      })
      (λ g t.
      let here = within t.0 t.1 in
      let same : here.0 ≡ g = laws.one_granule here.0 g (place_of address + t.0) here.2 t.2 in
      let in_chunk : IsChunkGranule w.replay.heap s g = subst (IsChunkGranule w.replay.heap s) same here.1 in
      let g_low : g ≤ (slot_in w.replay.heap s).start + chunk_granules_of (state_at w.replay.heap s) = in_chunk.to in
      tagged.chunk g in_chunk.from in_chunk.to ∙ chunk_tag ∙ sym (same_tag v off len address g a (omega arith) t))
    where
      live_tag : IsAddressOf w.replay.heap w.times (variable w.replay v) s time →
          (tagged : IsTaggedSlot w.replay.heap.memory s (slot_in w.replay.heap s) (state_at w.replay.heap s)) →
          (x : State) → state_at w.replay.heap s ≡ x → IsLive (state_at w.replay.heap s) →
          tagged.chunk_tag ≡ logical_tag (variable w.replay v)
      live_tag i tagged Fresh was l = absurd (subst IsLive was l)
      live_tag i tagged (Dead n u m) was l = absurd (subst IsLive was l)
      live_tag i tagged (Live n u) was l = grind arith

-- ---- own pointers

pub live_variables : (w : Run) → IsSoundRun w → LiveVariablesAreAccepted w
live_variables w sound v s time generation live = grind (arith, free_accepts, realloc_accepts)

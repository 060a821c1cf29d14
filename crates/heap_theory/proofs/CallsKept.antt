-- Each call keeps a sound heap, and gives out a slot or leaves what was given out.
use Rattle.std.proofs.Common.{arith, ◌≡◌, ℕ, ◌*◌, ◌<◌, Bool, true, false, cond, List, length, get_or, refl, sym, ◌∙◌, subst, Some, None}
use Rattle.std.proofs.{Common.{Option, Result, Ok, Err, ◌==◌, slice_set, min, replicate}, lemmas.List.{get_or-set_same, get_or-set_other}}
use Rattle.std.specs.Result.{result_ok}
use Rattle.machine_theory.specs.{Address.{logical_tag}, Memory.{written}}
use Rattle.class_table.specs.{Layout.{Partition, slot_count}, Sizes.{chunk_granules}}
use Rattle.heap_theory.proofs.HeapKept.{in_states, IsSoundHeap-given_out, IsSoundHeap-resized, IsSoundHeap-freed, IsSoundHeap-written}
use Rattle.heap_theory.proofs.{HeapKept.{IsSoundHeap-with_payload}, Lookups.{slot_for_request-cases, chunk_at-is, room_in_place}}
use Rattle.heap_theory.specs.Calls.{Step, next_tag, given_out, freed, resized, with_payload, payload_bytes, moved, malloc_with, malloc_step}
use Rattle.heap_theory.specs.Calls.{calloc_with, calloc_step, free_with, free_step, stays_in_class, slot_if_moved, move_with, realloc_with}
use Rattle.heap_theory.specs.{Calls.{realloc_step, store_step}, Sound.{IsSoundHeap}, State.State.{Fresh, Live, Dead}}
use Rattle.heap_theory.specs.Lookups.{Chunk, IsReusable, MayBeGiven, IsLiveChunk, slot_for_request, chunk_at}
use Rattle.heap_theory.specs.{State.{State, Heap, state_at, last_tag, is_fresh}, declared.refusal.FreeError.{FreeError}}

-- ---- changes that give out no slot, and leave dead ones as they are

pub record KeepsGiven (h new : Heap) : Type 0 where
  pub layout : new.layout ≡ h.layout
  pub limit : new.quarantine ≡ h.quarantine
  pub last : (s : ℕ) → last_tag (state_at new s) ≡ last_tag (state_at h s)
  pub fresh : (s : ℕ) → is_fresh (state_at new s) ≡ is_fresh (state_at h s)
  pub dead : (s n t m : ℕ) → state_at h s ≡ Dead n t m → state_at new s ≡ Dead n t m

pub KeepsGiven-refl : (h : Heap) → KeepsGiven h h
KeepsGiven-refl h = record { layout = refl; limit = refl; last = λ s. refl; fresh = λ s. refl; dead = λ s n t m is. is }

KeepsGiven-trans : (a b c : Heap) → KeepsGiven a b → KeepsGiven b c → KeepsGiven a c
KeepsGiven-trans a b c p q = grind arith

KeepsGiven-written : (h : Heap) (i : ℕ) (bytes : List ℕ) → KeepsGiven h (record h { memory = written i bytes h.memory })
KeepsGiven-written h i bytes = record { layout = refl; limit = refl; last = λ s. refl; fresh = λ s. refl; dead = λ s n t m is. is }

pub KeepsGiven-with_payload : (h : Heap) (s : ℕ) (bytes : List ℕ) → KeepsGiven h (with_payload h s bytes)
unfolding with_payload
KeepsGiven-with_payload h s bytes = KeepsGiven-written h _ bytes

-- a live slot gets another state, under the tag that it was given out with
module _ (h : Heap) (s : ℕ) (state : State) (n t : ℕ) (in_range : s < length h.states) (live : state_at h s ≡ Live n t)
    (same : last_tag state ≡ last_tag (state_at h s)) (not_fresh : is_fresh state ≡ false) where
  kept_last : (r : ℕ) → last_tag (get_or (slice_set h.states s state) r Fresh) ≡ last_tag (state_at h r)
  kept_last r = grind (arith, get_or-set_other, get_or-set_same)

  kept_fresh : (r : ℕ) → is_fresh (get_or (slice_set h.states s state) r Fresh) ≡ is_fresh (state_at h r)
  kept_fresh r = grind (arith, get_or-set_other, get_or-set_same)

  kept_dead : (r m u k : ℕ) → state_at h r ≡ Dead m u k → get_or (slice_set h.states s state) r Fresh ≡ Dead m u k
  kept_dead r m u k was = grind (arith, get_or-set_other)

KeepsGiven-freed : (h : Heap) (s n t : ℕ) → s < length h.states → state_at h s ≡ Live n t → KeepsGiven h (freed h s n)
unfolding freed
KeepsGiven-freed h s n t within live = grind (arith, kept_dead, kept_fresh, kept_last)

pub KeepsGiven-resized : (h : Heap) (s n m t : ℕ) → s < length h.states → state_at h s ≡ Live m t → KeepsGiven h (resized h s n)
unfolding resized
KeepsGiven-resized h s n m t within live = grind (arith, kept_dead, kept_fresh, kept_last)

-- ---- what a call changes

-- slot s was given out, and then nothing else
pub record GivesOut (h new : Heap) (s : ℕ) : Type 0 where
  pub n : ℕ
  pub given : MayBeGiven h n s
  pub kept : KeepsGiven (given_out h s n) new
  pub live : state_at new s ≡ Live n (next_tag h s)

-- nothing was given out, or this slot was
abbrev pub HeapChange : Heap → Heap → Option ℕ → Type 0
HeapChange h new None = KeepsGiven h new
HeapChange h new (Some s) = GivesOut h new s

pub record IsKept (h new : Heap) (given : Option ℕ) : Type 0 where
  pub sound : IsSoundHeap new
  pub change : HeapChange h new given

pub IsKept-refl : (h : Heap) → IsSoundHeap h → IsKept h h None
IsKept-refl h sound = record { sound = sound; change = KeepsGiven-refl h }

pub state_at-with_payload : (h : Heap) (s r : ℕ) (bytes : List ℕ) → state_at (with_payload h s bytes) r ≡ state_at h r
unfolding with_payload
state_at-with_payload h s r bytes = refl

pub state_at-given_out : (h : Heap) (s n : ℕ) → s < length h.states → state_at (given_out h s n) s ≡ Live n (next_tag h s)
unfolding given_out
state_at-given_out h s n within = get_or-set_same h.states s (Live n (next_tag h s)) Fresh within

pub state_at-given_out_other : (h : Heap) (s n r : ℕ) → (r ≡ s → ⊥) → state_at (given_out h s n) r ≡ state_at h r
unfolding given_out
state_at-given_out_other h s n r not = get_or-set_other h.states s r (Live n (next_tag h s)) Fresh not

pub layout-given_out : (h : Heap) (s n : ℕ) → (given_out h s n).layout ≡ h.layout
unfolding given_out
layout-given_out h s n = refl

pub quarantine-given_out : (h : Heap) (s n : ℕ) → (given_out h s n).quarantine ≡ h.quarantine
unfolding given_out
quarantine-given_out h s n = refl

layout-with_payload : (h : Heap) (s : ℕ) (bytes : List ℕ) → (with_payload h s bytes).layout ≡ h.layout
unfolding with_payload
layout-with_payload h s bytes = refl

-- a live slot is not given out
pub not_reusable : (h : Heap) (s size t : ℕ) → IsReusable h s → state_at h s ≡ Live size t → ⊥
not_reusable h s size t reusable live = grind arith

-- ---- a chunk is moved

module _ where
  given_sound : (h : Heap) (n s : ℕ) → IsSoundHeap h → MayBeGiven h n s → IsSoundHeap (given_out h s n)
  given_sound h n s sound given = IsSoundHeap-given_out h s n sound given.reusable.in_range given.room

  -- what stands before the old chunk is freed
  module _ (h : Heap) (p : ℕ) (chunk : Chunk) (s n : ℕ) (sound : IsSoundHeap h) (c : IsLiveChunk h p chunk) (given : MayBeGiven h n s) where
    copied : Heap
    copied = with_payload (given_out h s n) s (payload_bytes h chunk.slot (min chunk.size n))

    sound_copied : IsSoundHeap copied
    unfolding copied
    sound_copied =
        IsSoundHeap-with_payload (given_out h s n) s (payload_bytes h chunk.slot (min chunk.size n)) (given_sound h n s sound given)

    live_copied : state_at copied chunk.slot ≡ Live chunk.size (logical_tag p)
    unfolding copied
    live_copied = grind (arith, state_at-with_payload, state_at-given_out_other)

    layout_copied : copied.layout ≡ h.layout
    unfolding copied
    layout_copied = layout-with_payload (given_out h s n) s (payload_bytes h chunk.slot (min chunk.size n)) ∙ layout-given_out h s n

    in_range_copied : chunk.slot < slot_count copied.layout
    in_range_copied = subst (λ (layout : Partition). chunk.slot < slot_count layout) (sym layout_copied) c.in_range

    pub KeepsGiven-moved : KeepsGiven (given_out h s n) (moved h chunk s n)
    unfolding moved copied
    KeepsGiven-moved = KeepsGiven-trans (given_out h s n) copied (freed copied chunk.slot chunk.size)
        (KeepsGiven-with_payload (given_out h s n) s (payload_bytes h chunk.slot (min chunk.size n)))
        (KeepsGiven-freed copied chunk.slot chunk.size (logical_tag p) (in_states copied chunk.slot sound_copied in_range_copied)
        live_copied)

    pub live_moved : state_at (moved h chunk s n) s ≡ Live n (next_tag h s)
    unfolding moved copied freed
    live_moved = grind (arith, get_or-set_other, state_at-with_payload, state_at-given_out, in_states)

    pub IsSoundHeap-moved : IsSoundHeap (moved h chunk s n)
    unfolding moved copied
    IsSoundHeap-moved = IsSoundHeap-freed copied chunk.slot chunk.size (logical_tag p) sound_copied in_range_copied live_copied

    IsKept-moved : IsKept h (moved h chunk s n) (Some s)
    IsKept-moved = grind (arith, IsSoundHeap-moved, KeepsGiven-moved, live_moved)

  -- ---- the calls

  -- a slot is given out, and keeps its state
  IsKept-given : (h new : Heap) (n s : ℕ) → IsSoundHeap h → MayBeGiven h n s → IsSoundHeap new → KeepsGiven (given_out h s n) new →
      state_at new s ≡ state_at (given_out h s n) s → IsKept h new (Some s)
  IsKept-given h new n s sound given new_sound kept same = grind (arith, state_at-given_out, in_states)

  pub IsKept-malloc : (h : Heap) (n : ℕ) → IsSoundHeap h → IsKept h (malloc_step h n).heap (result_ok (slot_for_request h n))
  unfolding malloc_step
  IsKept-malloc h n sound =
      slot_for_request-cases h n sound (λ r. IsKept h (malloc_with h n r).heap (result_ok r)) (λ cause. IsKept-refl h sound)
      (λ s given. IsKept-given h (given_out h s n) n s sound given (given_sound h n s sound given) (KeepsGiven-refl (given_out h s n)) refl)

  pub IsKept-calloc : (h : Heap) (n : ℕ) → IsSoundHeap h → IsKept h (calloc_step h n).heap (result_ok (slot_for_request h n))
  unfolding calloc_step
  IsKept-calloc h n sound =
      let zeroes = replicate (16 * chunk_granules n) 0 in
      slot_for_request-cases h n sound (λ r. IsKept h (calloc_with h n r).heap (result_ok r)) (λ cause. IsKept-refl h sound)
      (λ s given. IsKept-given h (with_payload (given_out h s n) s zeroes) n s sound given
      (IsSoundHeap-with_payload (given_out h s n) s zeroes (given_sound h n s sound given))
      (KeepsGiven-with_payload (given_out h s n) s zeroes) (state_at-with_payload (given_out h s n) s s zeroes))

  IsKept-either : {A : Type 0} (h : Heap) (b : Bool) (x y : Step A) (o q : Option ℕ) → (b ≡ true → IsKept h x.heap o) →
      (b ≡ false → IsKept h y.heap q) →
      IsKept h (cond b x y).heap (cond b o q)
  IsKept-either h b x y o q so not_so = grind arith

  pub IsKept-free : (h : Heap) (p : ℕ) → IsSoundHeap h → IsKept h (free_step h p).heap None
  unfolding free_step
  IsKept-free h p sound = by_null (p == 0)
    where
      by_chunk : (r : Result Chunk FreeError) → chunk_at h p ≡ r → IsKept h (free_with h r).heap None
      by_chunk (Err error) was = IsKept-refl h sound
      by_chunk (Ok chunk) was =
          let c = chunk_at-is h p chunk was in
          record {
            sound = IsSoundHeap-freed h chunk.slot chunk.size (logical_tag p) sound c.in_range c.live;
            change = KeepsGiven-freed h chunk.slot chunk.size (logical_tag p) (in_states h chunk.slot sound c.in_range) c.live;
          }

      by_null : (null : Bool) → IsKept h (cond null (record { heap = h; answer = Ok tt }) (free_with h (chunk_at h p))).heap None
      by_null true = IsKept-refl h sound
      by_null false = by_chunk (chunk_at h p) refl

  pub IsKept-realloc : (h : Heap) (p n : ℕ) → IsSoundHeap h →
      IsKept h (realloc_step h p n).heap (cond (p == 0) (result_ok (slot_for_request h n)) (slot_if_moved h n (chunk_at h p)))
  unfolding realloc_step
  IsKept-realloc h p n sound = IsKept-either h (p == 0) _ _ _ _ (λ _. IsKept-malloc h n sound) (λ _. by_chunk (chunk_at h p) refl)
    where
      by_chunk : (r : Result Chunk FreeError) → chunk_at h p ≡ r → IsKept h (realloc_with h p n r).heap (slot_if_moved h n r)
      by_chunk (Err error) was = IsKept-refl h sound
      by_chunk (Ok chunk) was =
          let c = chunk_at-is h p chunk was in
          IsKept-either h (stays_in_class h chunk n) _ _ None _
          (λ stays. record {
            sound =
                IsSoundHeap-resized h chunk.slot n chunk.size (logical_tag p) sound c.in_range c.live
                (room_in_place h chunk n stays (sound.slots.wide chunk.slot c.in_range));
            change = KeepsGiven-resized h chunk.slot n chunk.size (logical_tag p) (in_states h chunk.slot sound c.in_range) c.live;
          })
          (λ _. slot_for_request-cases h n sound (λ o. IsKept h (move_with h chunk n o).heap (result_ok o)) (λ cause. IsKept-refl h sound)
          (λ s given. IsKept-moved h p chunk s n sound c given))

  pub IsKept-store : (h : Heap) (address : ℕ) (bytes : List ℕ) → IsSoundHeap h → IsKept h (store_step h address bytes) None
  unfolding store_step
  IsKept-store h address bytes sound = grind (arith, IsSoundHeap-written, KeepsGiven-written, IsKept-refl)

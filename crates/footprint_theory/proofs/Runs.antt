-- What every run keeps: whatever is called, the heap is at the moment after what it answered.
use Rattle.std.proofs.Common.{◌≡◌, ℕ, ◌*◌, ◌<◌, ◌≤◌, ◌==◌, Bool, true, false, cond, List, [], ◌∷◌, ◌++◌, length, append_assoc, append-nil}
use Rattle.std.proofs.Common.{refl, sym, subst, ◌∙◌, Ok, Err, Some, None, Option, Result, arith, replicate}
use Rattle.std.{proofs.lemmas.{Bool.{cases_Bool, false≢true, eqb-true}, Bool.Decides.{nat_tests}}, specs.Result.{result_map_both}}
use Rattle.machine_theory.specs.{Access.{access_fault, stored}, Address.{logical_tag}, Memory.{Granule}, declared.fault.Fault.{Fault}}
use Rattle.class_table.specs.{Layout.{Partition, slot_count}, Sizes.{chunk_granules, largest_counted}, Tables.{class_for}}
use Rattle.footprint_theory.proofs.{Chosen.{class-small, request_chosen}, Counted.{FitsSlot}}
use Rattle.footprint_theory.proofs.Moments.{IsAt, freed_at, given_at, moved_at, resized_at}
use Rattle.footprint_theory.specs.Calls.{Call, Call.{Malloc, Calloc, Realloc, Release, Store}, events_of, free_at, free_of, heap_after}
use Rattle.footprint_theory.specs.Calls.{heap_after_all, if_answered, timeline_of}
use Rattle.heap_theory.proofs.{HeapKept.{IsSoundHeap-with_payload, IsSoundHeap-written}, Lookups.{chunk_at-is, class_for_request-is}}
use Rattle.heap_theory.proofs.Lookups.{room_in_place}
use Rattle.heap_theory.specs.Calls.{as_realloc, calloc_step, calloc_with, free_step, free_with, freed, given_out, malloc_step}
use Rattle.heap_theory.specs.Calls.{moved, realloc_step, realloc_with, resized, stays_in_class, store_step}
use Rattle.heap_theory.specs.Calls.{store_with, with_payload}
use Rattle.heap_theory.specs.{Lookups.{Chunk, IsLiveChunk, chunk_at, slot_for_request}, Sound.{IsSoundHeap}}
use Rattle.heap_theory.specs.{State.{Heap, slot_in, state_at}, State.State.{Live}, declared.refusal.FreeError.{FreeError}}
use Rattle.heap_theory.specs.declared.refusal.NullCause.{NullCause}
use Rattle.heap_theory.specs.declared.refusal.ReallocError.TheVariants.{Null}
use Rattle.tuner_theory.specs.declared.size_event.{SizeEvent.{SizeEvent}, SizeEvent.TheVariants.{Request, Free}}

-- a realloc stays in place where the size is of its slot's class
stays-is : (h : Heap) (chunk : Chunk) (n : ℕ) → stays_in_class h chunk n ≡ true → FitsSlot h.layout chunk.slot n
stays-is h chunk n stays = grind (arith, class-small, class_for_request-is, eqb-true)

stays-in : (h : Heap) (chunk : Chunk) (n s : ℕ) → n ≤ largest_counted → class_for h.layout.classes n ≡ Some (slot_in h s).class →
    (slot_in h chunk.slot).class ≡ (slot_in h s).class → stays_in_class h chunk n ≡ true
stays-in h chunk n s small its same = grind (arith, nat_tests)

as-malloc : (r : Result ℕ NullCause) (events : List SizeEvent) →
    if_answered (result_map_both (λ (p : ℕ). p) Null r) events ≡ if_answered r events
as-malloc (Ok p) events = refl
as-malloc (Err cause) events = refl

module _ (layout : Partition) (limit : ℕ) where
  -- a heap of this layout and limit, after these events
  pub record IsAfter (h : Heap) (past : List SizeEvent) : Type 0 where
    pub at : IsAt h past
    pub layout_is : h.layout ≡ layout
    pub limit_is : h.quarantine ≡ limit

  module _ (h : Heap) (past : List SizeEvent) (after : IsAfter h past) where
    idle : IsAfter h (past ++ [])
    idle = subst (IsAfter h) (sym (append-nil past)) after

    over-memory : (memory : List Granule) → (IsSoundHeap h → IsSoundHeap (record h { memory = memory })) →
        IsAfter (record h { memory = memory }) past
    over-memory memory sound = record {
      at = record { sound = sound after.at.sound; counts = after.at.counts; within = after.at.within };
      layout_is = after.layout_is;
      limit_is = after.limit_is;
    }

    after-given : (n s : ℕ) → slot_for_request h n ≡ Ok s → IsAfter (given_out h s n) (past ++ Request n ∷ [])
    unfolding given_out
    after-given n s is = record {
      at = given_at h past after.at n s (request_chosen h n s after.at.sound is);
      layout_is = after.layout_is;
      limit_is = after.limit_is;
    }

    after-freed : (n s t : ℕ) → s < slot_count h.layout → state_at h s ≡ Live n t → IsAfter (freed h s n) (past ++ Free n ∷ [])
    unfolding freed
    after-freed n s t within live = record {
      at = freed_at h past after.at n s t within live;
      layout_is = after.layout_is;
      limit_is = after.limit_is;
    }

    after-resized : (p n : ℕ) (chunk : Chunk) → IsLiveChunk h p chunk → stays_in_class h chunk n ≡ true →
        IsAfter (resized h chunk.slot n) (past ++ Free chunk.size ∷ Request n ∷ [])
    unfolding resized
    after-resized p n chunk c stays =
        subst (IsAfter (resized h chunk.slot n)) (append_assoc past (Free chunk.size ∷ []) (Request n ∷ [])) (record {
          at = resized_at h past after.at p chunk c n (stays-is h chunk n stays)
              (room_in_place h chunk n stays (after.at.sound.slots.wide chunk.slot c.in_range));
          layout_is = after.layout_is;
          limit_is = after.limit_is;
        })

    after-moved : (p n s : ℕ) (chunk : Chunk) → IsLiveChunk h p chunk → stays_in_class h chunk n ≡ false → slot_for_request h n ≡ Ok s →
        IsAfter (moved h chunk s n) (past ++ Free chunk.size ∷ Request n ∷ [])
    unfolding moved freed with_payload given_out
    after-moved p n s chunk c leaves was =
        let chosen = request_chosen h n s after.at.sound was in
        subst (IsAfter (moved h chunk s n)) (append_assoc past (Free chunk.size ∷ []) (Request n ∷ [])) (record {
          at = moved_at h past after.at p chunk c n s chosen
              (λ same. false≢true (sym leaves ∙ stays-in h chunk n s chosen.small chosen.may.class same));
          layout_is = after.layout_is;
          limit_is = after.limit_is;
        })

    -- ---- each call

    after-malloc : (n : ℕ) → IsAfter (malloc_step h n).heap (past ++ if_answered (malloc_step h n).answer (Request n ∷ []))
    unfolding malloc_step
    after-malloc n = grind (arith, after-given n, idle)

    after-free : (p : ℕ) → IsAfter (free_step h p).heap (past ++ free_at h p)
    unfolding free_step
    after-free p = by_null (p == 0)
      where
        by_chunk : (o : Result Chunk FreeError) → chunk_at h p ≡ o → IsAfter (free_with h o).heap (past ++ free_of o)
        by_chunk (Err error) was = idle
        by_chunk (Ok chunk) was =
            let c = chunk_at-is h p chunk was in
            after-freed chunk.size chunk.slot (logical_tag p) c.in_range c.live

        by_null : (null : Bool) → IsAfter (cond null (record { heap = h; answer = Ok tt }) (free_with h (chunk_at h p))).heap
            (past ++ cond null [] (free_of (chunk_at h p)))
        by_null true = idle
        by_null false = by_chunk (chunk_at h p) refl

    after-realloc : (p n : ℕ) → IsAfter (realloc_step h p n).heap
        (past ++ if_answered (realloc_step h p n).answer (free_at h p ++ Request n ∷ []))
    unfolding realloc_step
    after-realloc p n = by_null (p == 0)
      where
        by_chunk : (o : Result Chunk FreeError) → chunk_at h p ≡ o → IsAfter (realloc_with h p n o).heap
            (past ++ if_answered (realloc_with h p n o).answer (free_of o ++ Request n ∷ []))
        by_chunk o was = grind (arith, cases_Bool, chunk_at-is h p, idle, after-moved p n, after-resized p n)

        by_null : (null : Bool) → IsAfter (cond null (as_realloc (malloc_step h n)) (realloc_with h p n (chunk_at h p))).heap
            (past ++ if_answered (cond null (as_realloc (malloc_step h n)) (realloc_with h p n (chunk_at h p))).answer
            (cond null [] (free_of (chunk_at h p)) ++ Request n ∷ []))
        by_null true =
            subst (λ events. IsAfter (malloc_step h n).heap (past ++ events)) (sym (as-malloc (malloc_step h n).answer (Request n ∷ [])))
            (after-malloc n)
        by_null false = by_chunk (chunk_at h p) refl

    after-store : (address : ℕ) (bytes : List ℕ) → IsAfter (store_step h address bytes) (past ++ [])
    unfolding store_step
    after-store address bytes =
        subst (IsAfter (store_step h address bytes)) (sym (append-nil past)) (by_fault (access_fault h.memory address (length bytes)))
      where
        by_fault : (o : Option Fault) → IsAfter (store_with h address bytes o) past
        by_fault (Some fault) = after
        by_fault None = over-memory (stored h.memory address bytes) (IsSoundHeap-written h _ bytes)

  after_calloc : (h : Heap) (past : List SizeEvent) → IsAfter h past → (n : ℕ) →
      IsAfter (calloc_step h n).heap (past ++ if_answered (calloc_step h n).answer (Request n ∷ []))
  unfolding calloc_step with_payload
  after_calloc h past after n = by_slot (slot_for_request h n) refl
    where
      by_slot : (o : Result ℕ NullCause) → slot_for_request h n ≡ o →
          IsAfter (calloc_with h n o).heap (past ++ if_answered (calloc_with h n o).answer (Request n ∷ []))
      by_slot (Err cause) was = idle h past after
      by_slot (Ok s) was =
          over-memory (given_out h s n) (past ++ Request n ∷ []) (after-given h past after n s was) _
          (IsSoundHeap-with_payload (given_out h s n) s (replicate (16 * chunk_granules n) 0))

  -- ---- all calls

  pub after_call : (h : Heap) (past : List SizeEvent) (call : Call) → IsAfter h past →
      IsAfter (heap_after h call) (past ++ events_of h call)
  after_call h past (Malloc n) after = after-malloc h past after n
  after_call h past (Calloc n) after = after_calloc h past after n
  after_call h past (Realloc p n) after = after-realloc h past after p n
  after_call h past (Release p) after = after-free h past after p
  after_call h past (Store address bytes) after = after-store h past after address bytes

  pub after_calls : (h : Heap) (past : List SizeEvent) (calls : List Call) → IsAfter h past →
      IsAfter (heap_after_all h calls) (past ++ timeline_of h calls)
  after_calls h past [] after = idle h past after
  after_calls h past (call ∷ calls) after =
      subst (IsAfter (heap_after_all h (call ∷ calls))) (append_assoc past (events_of h call) (timeline_of (heap_after h call) calls))
      (after_calls (heap_after h call) (past ++ events_of h call) calls (after_call h past call after))

-- The pointer that was given out for a live chunk is accepted by `free` and by `realloc`, and of the others only null is.
use Rattle.std.proofs.Common.{◌≡◌, ◌≢◌, ℕ, ◌*◌, ◌<◌, List, refl, sym, ap, ◌∙◌, subst, inl, inr, arith, Option, None}
use Rattle.std.proofs.{Common.{Result, Ok, Err, ◌==◌, replicate, ◌↔◌}, lemmas.List.{get_or-set_same, get_or-set_other}}
use Rattle.std.proofs.lemmas.Bool.{cases_eq, cond-true, cond-false, cond_both, eq-eqb, eqb-true, false_from_ne_true}
use Rattle.machine_theory.specs.{Address.{logical_tag, with_tag}}
use Rattle.class_table.specs.{Layout.{Partition, slot_count, slot_of}, Sizes.{chunk_granules}}
use Rattle.heap_theory.proofs.CallsKept.{KeepsGiven, KeepsGiven-refl, KeepsGiven-with_payload, KeepsGiven-resized, KeepsGiven-moved}
use Rattle.heap_theory.proofs.CallsKept.{HeapChange, IsKept-malloc, IsKept-calloc, IsKept-free, IsKept-realloc, IsKept-store}
use Rattle.heap_theory.proofs.CallsKept.{state_at-with_payload, state_at-given_out, state_at-given_out_other, live_moved, layout-given_out}
use Rattle.heap_theory.proofs.{CallsKept.{not_reusable}, HeapKept.{in_states}, Lookups.{slot_for_request-cases, chunk_at-is}}
use Rattle.heap_theory.{proofs.Pointers.{own_chunk}, specs.Lookups.{Chunk, MayBeGiven, IsLiveChunk, slot_for_request, chunk_at}}
use Rattle.heap_theory.specs.Calls.{move_with, realloc_with, realloc_step, store_step, Step, given_out, freed}
use Rattle.heap_theory.specs.Calls.{resized, with_payload, moved, malloc_with, malloc_step, calloc_with, calloc_step}
use Rattle.heap_theory.specs.{Calls.{free_with, free_step, stays_in_class}, Sound.{IsSoundHeap}, State.State.{Fresh, Live, Dead}}
use Rattle.heap_theory.specs.OwnPointers.{GivesOwnPointers, StaysOwnPointer, IsOwnPointer, IsNullOrOwn, FreeAccepts, IsNotRefused}
use Rattle.heap_theory.specs.{OwnPointers.{ReallocAccepts}, declared.refusal.FreeError.{FreeError}}
use Rattle.heap_theory.specs.State.{State, Heap, IsLive, state_at, last_tag, payload_place, pointer_to, IsSlot}
use Rattle.heap_theory.specs.declared.refusal.ReallocError.{ReallocError}

-- ---- own pointers and named chunks

live_is : (x : State) → IsLive x → (n : ℕ) × (t : ℕ) × (x ≡ Live n t)
live_is x0 l = grind arith

-- the own pointer of a chunk names it
names : (h : Heap) (s p : ℕ) → IsSoundHeap h → IsOwnPointer h s p → (chunk : Chunk) × (chunk_at h p ≡ Ok chunk)
names h s p sound own =
    let l = live_is (state_at h s) own.live in
    (record { slot = s; size = l.0 }, ap (chunk_at h) own.address ∙ own_chunk h s l.0 l.1 sound own.in_range l.2)

-- what names a chunk is its own pointer
own_of : (h : Heap) (p : ℕ) (chunk : Chunk) → chunk_at h p ≡ Ok chunk → IsOwnPointer h chunk.slot p
own_of h p chunk named =
    let c = chunk_at-is h p chunk named in
    grind arith

-- ---- free

abbrev answer_of_free : Step (Result (Unit {0}) FreeError) → Result (Unit {0}) FreeError
answer_of_free step = step.answer

free_null : (h : Heap) (p : ℕ) → p ≡ 0 → FreeAccepts h p
unfolding free_step
free_null h p null = grind (arith, eq-eqb)

free_some : (h : Heap) (p : ℕ) (r : Result Chunk FreeError) → p ≢ 0 → chunk_at h p ≡ r → free_step h p ≡ free_with h r
unfolding free_step
free_some h p r some named = cond-false (p == 0) _ _ (false_from_ne_true _ (λ null. some (eqb-true _ _ null))) ∙ ap (free_with h) named

pub free_accepts : (heap : Heap) (p : ℕ) → IsSoundHeap heap → FreeAccepts heap p ↔ IsNullOrOwn heap p
free_accepts h p sound = (
  λ accepts. elim (cases_eq p 0) [
    | inl null ↦ inl null
    | inr some ↦ by_chunk some accepts (chunk_at h p) refl
  ],
  λ own. elim (cases_eq p 0) [
    | inl null ↦ free_null h p null
    | inr some ↦ elim own [
      | inl null ↦ absurd (some null)
      | inr is ↦ let named = names h is.0 p sound is.1 in ap answer_of_free (free_some h p (Ok named.0) some named.1)
    ]
  ],
)
  where
    by_chunk : p ≢ 0 → FreeAccepts h p → (r : Result Chunk FreeError) → chunk_at h p ≡ r → IsNullOrOwn h p
    by_chunk some accepts (Ok chunk) was = inr (chunk.slot, own_of h p chunk was)
    by_chunk some accepts (Err error) was = grind (arith, free_some)

pub frees_chunk : (heap : Heap) (s n tag : ℕ) → IsSoundHeap heap → IsSlot heap s → state_at heap s ≡ Live n tag →
    free_step heap (pointer_to heap s) ≡ record { heap = freed heap s n; answer = Ok tt }
frees_chunk h s n t sound within live = grind (arith, free_some, own_chunk)

-- ---- realloc

abbrev Accepted : Step (Result ℕ ReallocError) → Type 0
Accepted step = IsNotRefused step.answer

realloc_null : (h : Heap) (p n : ℕ) → p ≡ 0 → ReallocAccepts h p n
unfolding realloc_step
realloc_null h p n null = grind (arith, cond-true, eq-eqb)

realloc_some : (h : Heap) (p n : ℕ) (r : Result Chunk FreeError) → p ≢ 0 → chunk_at h p ≡ r → realloc_step h p n ≡ realloc_with h p n r
unfolding realloc_step
realloc_some h p n r some named = grind (arith, cond-false, false_from_ne_true, eqb-true)

pub realloc_accepts : (heap : Heap) (p n : ℕ) → IsSoundHeap heap → ReallocAccepts heap p n ↔ IsNullOrOwn heap p
realloc_accepts h p n sound = (
  λ accepts. elim (cases_eq p 0) [
    | inl null ↦ inl null
    | inr some ↦ by_chunk some accepts (chunk_at h p) refl
  ],
  λ own. elim (cases_eq p 0) [
    | inl null ↦ realloc_null h p n null
    | inr some ↦ elim own [
      | inl null ↦ absurd (some null)
      | inr is ↦
          let named = names h is.0 p sound is.1 in
          subst Accepted (sym (realloc_some h p n (Ok named.0) some named.1)) (grind arith)
    ]
  ],
)
  where
    by_chunk : p ≢ 0 → ReallocAccepts h p n → (r : Result Chunk FreeError) → chunk_at h p ≡ r → IsNullOrOwn h p
    by_chunk some accepts (Ok chunk) was = inr (chunk.slot, own_of h p chunk was)
    by_chunk some accepts (Err error) was = absurd (subst Accepted (realloc_some h p n (Err error) some was) accepts)

-- ---- own pointers are given out

kept_pointer : (h new : Heap) (s : ℕ) → KeepsGiven h new → pointer_to new s ≡ pointer_to h s
kept_pointer h new s kept = λ i. with_tag (payload_place (slot_of (kept.layout i) s)) (kept.last s i)

same_layout : (h new : Heap) (s : ℕ) → new.layout ≡ h.layout → s < slot_count h.layout → s < slot_count new.layout
same_layout h new s same within = subst (λ (layout : Partition). s < slot_count layout) (sym same) within

own_new : (h new : Heap) (s n : ℕ) → MayBeGiven h n s → KeepsGiven (given_out h s n) new → IsLive (state_at new s) →
    IsOwnPointer new s (pointer_to (given_out h s n) s)
own_new h new s n given kept live = grind (arith, kept_pointer, layout-given_out, same_layout)

-- the slot of an own pointer is not given out
not_given : (h : Heap) (s p n r : ℕ) → IsOwnPointer h s p → MayBeGiven h n r → s ≢ r
not_given h s p n r own given is = grind (arith, live_is, not_reusable)

-- an own pointer stays one while its slot stays live, whether nothing or another slot is given out
own_kept : (h new : Heap) (s p : ℕ) → KeepsGiven h new → IsOwnPointer h s p → IsLive (state_at new s) → IsOwnPointer new s p
own_kept h new s p kept own live = grind (arith, kept_pointer, same_layout)

own_stays : (h new : Heap) (given : Option ℕ) (s p : ℕ) → HeapChange h new given → IsOwnPointer h s p → IsLive (state_at new s) →
    IsOwnPointer new s p
own_stays h new given s p change own live = grind (arith, own_kept, not_given, state_at-given_out_other, same_layout, layout-given_out)

-- no pointer but its own names the slot
not_named : (h : Heap) (s p q : ℕ) (chunk : Chunk) → IsOwnPointer h s p → q ≢ p → chunk_at h q ≡ Ok chunk → s ≢ chunk.slot
not_named h s p q chunk own another named is = grind (arith, own_of)

state_at-freed_other : (h : Heap) (s n r : ℕ) → r ≢ s → state_at (freed h s n) r ≡ state_at h r
unfolding freed
state_at-freed_other h s n r another = get_or-set_other h.states s r (Dead n (last_tag (state_at h s)) h.total) Fresh another

state_at-resized_other : (h : Heap) (s n r : ℕ) → r ≢ s → state_at (resized h s n) r ≡ state_at h r
unfolding resized
state_at-resized_other h s n r another = get_or-set_other h.states s r (Live n (last_tag (state_at h s))) Fresh another

-- so each call but its own leaves its state as it is
module _ (h : Heap) (s p : ℕ) (sound : IsSoundHeap h) (own : IsOwnPointer h s p) where
  spared : (n r : ℕ) → MayBeGiven h n r → state_at (given_out h r n) s ≡ state_at h s
  spared n r given = state_at-given_out_other h r n s (not_given h s p n r own given)

  state_after_malloc : (n : ℕ) → state_at (malloc_step h n).heap s ≡ state_at h s
  unfolding malloc_step
  state_after_malloc n =
      slot_for_request-cases h n sound (λ r. state_at (malloc_with h n r).heap s ≡ state_at h s) (λ cause. refl) (spared n)

  state_after_calloc : (n : ℕ) → state_at (calloc_step h n).heap s ≡ state_at h s
  unfolding calloc_step
  state_after_calloc n =
      slot_for_request-cases h n sound (λ r. state_at (calloc_with h n r).heap s ≡ state_at h s) (λ cause. refl)
      (λ r given. state_at-with_payload (given_out h r n) r s (replicate (16 * chunk_granules n) 0) ∙ spared n r given)

  state_after_free : (q : ℕ) → q ≢ p → state_at (free_step h q).heap s ≡ state_at h s
  unfolding free_step
  state_after_free q another = grind (arith, cond_both, state_at-freed_other, not_named)

  state_after_realloc : (q n : ℕ) → q ≢ p → state_at (realloc_step h q n).heap s ≡ state_at h s
  unfolding realloc_step moved
  state_after_realloc q n another = cond_both (q == 0) _ _ Keeps (λ _. state_after_malloc n) (λ _. by_chunk (chunk_at h q) refl)
    where
      Keeps : Step (Result ℕ ReallocError) → Type 0
      Keeps step = state_at step.heap s ≡ state_at h s

      by_chunk : (r : Result Chunk FreeError) → chunk_at h q ≡ r → Keeps (realloc_with h q n r)
      by_chunk (Err error) was = refl
      by_chunk (Ok chunk) was =
          let other = not_named h s p q chunk own another was in
          cond_both (stays_in_class h chunk n) _ _ Keeps (λ _. state_at-resized_other h chunk.slot n s other)
          (λ _. slot_for_request-cases h n sound (λ r. Keeps (move_with h chunk n r)) (λ cause. refl)
          (grind (arith, state_at-freed_other, state_at-with_payload, spared)))

  state_after_store : (address : ℕ) (bytes : List ℕ) → state_at (store_step h address bytes) s ≡ state_at h s
  unfolding store_step
  state_after_store address bytes = grind arith

pub stays_own : (heap : Heap) (s p : ℕ) → IsSoundHeap heap → IsOwnPointer heap s p → StaysOwnPointer heap s p
stays_own h s p sound own = record {
  malloc = λ n. own_stays h _ _ s p (IsKept-malloc h n sound).change own (live (state_after_malloc h s p sound own n));
  calloc = λ n. own_stays h _ _ s p (IsKept-calloc h n sound).change own (live (state_after_calloc h s p sound own n));
  free = λ q another. own_stays h _ None s p (IsKept-free h q sound).change own (live (state_after_free h s p sound own q another));
  realloc =
      λ q n another. own_stays h _ _ s p (IsKept-realloc h q n sound).change own (live (state_after_realloc h s p sound own q n another));
  store =
      λ address bytes. own_stays h _ None s p (IsKept-store h address bytes sound).change own
      (live (state_after_store h s p sound own address bytes));
}
  where
    live : {x : State} → x ≡ state_at h s → IsLive x
    live same = subst IsLive (sym same) own.live

-- a step whose answer is this pointer leaves a heap in which it is an own one
abbrev GivesOwn : {E : Type 0} → Step (Result ℕ E) → ℕ → Type 0
GivesOwn step p = step.answer ≡ Ok p → (s : ℕ) × IsOwnPointer step.heap s p

-- a slot is given out, and keeps its pointer
slot_gives : {E : Type 0} (h new : Heap) (n s p : ℕ) → MayBeGiven h n s → KeepsGiven (given_out h s n) new → IsLive (state_at new s) →
    ◌≡◌ {A = Result ℕ E} (Ok (pointer_to (given_out h s n) s)) (Ok p) → (r : ℕ) × IsOwnPointer new r p
slot_gives {E} h new n s p given kept live is = grind (arith, own_new)

live_given : (h : Heap) (n s : ℕ) → IsSoundHeap h → MayBeGiven h n s → IsLive (state_at (given_out h s n) s)
live_given h n s sound given = subst IsLive (sym (state_at-given_out h s n (in_states h s sound given.reusable.in_range))) tt

malloc_own : (h : Heap) (n p : ℕ) → IsSoundHeap h → GivesOwn (malloc_step h n) p
unfolding malloc_step
malloc_own h n p sound = slot_for_request-cases h n sound (λ r. GivesOwn (malloc_with h n r) p) (λ cause is. absurd cc)
    (λ s given. slot_gives h (given_out h s n) n s p given (KeepsGiven-refl (given_out h s n)) (live_given h n s sound given))

calloc_own : (h : Heap) (n p : ℕ) → IsSoundHeap h → GivesOwn (calloc_step h n) p
unfolding calloc_step
calloc_own h n p sound = slot_for_request-cases h n sound (λ r. GivesOwn (calloc_with h n r) p) (λ cause is. absurd cc)
    (λ s given. let zeroes = replicate (16 * chunk_granules n) 0 in
    slot_gives h (with_payload (given_out h s n) s zeroes) n s p given (KeepsGiven-with_payload (given_out h s n) s zeroes)
    (subst IsLive (sym (state_at-with_payload (given_out h s n) s s zeroes)) (live_given h n s sound given)))

move_gives : (h : Heap) (q n p : ℕ) (chunk : Chunk) → IsSoundHeap h → IsLiveChunk h q chunk →
    GivesOwn (move_with h chunk n (slot_for_request h n)) p
move_gives h q n p chunk sound c =
    slot_for_request-cases h n sound (λ r. GivesOwn (move_with h chunk n r) p) (λ cause is. absurd cc)
    (λ s given. slot_gives h (moved h chunk s n) n s p given (KeepsGiven-moved h q chunk s n sound c given)
    (subst IsLive (sym (live_moved h q chunk s n sound c given)) tt))

state_at-resized : (h : Heap) (s n : ℕ) → IsSoundHeap h → s < slot_count h.layout →
    state_at (resized h s n) s ≡ Live n (last_tag (state_at h s))
unfolding resized
state_at-resized h s n sound within = get_or-set_same h.states s (Live n (last_tag (state_at h s))) Fresh (in_states h s sound within)

resize_gives : (h : Heap) (q n p : ℕ) (chunk : Chunk) → IsSoundHeap h → chunk_at h q ≡ Ok chunk →
    GivesOwn {E = ReallocError} (record { heap = resized h chunk.slot n; answer = Ok q }) p
resize_gives h q n p chunk sound named is =
    let same : q ≡ p = cc in
    let c = chunk_at-is h q chunk named in
    let kept = KeepsGiven-resized h chunk.slot n chunk.size (logical_tag q) (in_states h chunk.slot sound c.in_range) c.live in
    grind (arith, state_at-resized, own_kept, own_of)

chunk_gives : (h : Heap) (q n p : ℕ) → IsSoundHeap h → (r : Result Chunk FreeError) → chunk_at h q ≡ r →
    GivesOwn (realloc_with h q n r) p
chunk_gives h q n p sound (Err error) was is = absurd cc
chunk_gives h q n p sound (Ok chunk) was is =
    cond_both (stays_in_class h chunk n) _ _ (λ (step : Step (Result ℕ ReallocError)). GivesOwn step p)
    (λ _. resize_gives h q n p chunk sound was)
    (λ _. move_gives h q n p chunk sound (chunk_at-is h q chunk was)) is

realloc_own : (h : Heap) (q n p : ℕ) → IsSoundHeap h → GivesOwn (realloc_step h q n) p
unfolding realloc_step
realloc_own h q n p sound =
    cond_both (q == 0) _ _ (λ (step : Step (Result ℕ ReallocError)). GivesOwn step p) (grind (arith, malloc_own))
    (λ _. chunk_gives h q n p sound (chunk_at h q) refl)

pub gives_own : (heap : Heap) → IsSoundHeap heap → GivesOwnPointers heap
gives_own h sound = grind (arith, calloc_own, malloc_own, realloc_own)

pub ruleset own_pointers = (free_accepts, realloc_accepts, own_chunk, frees_chunk, gives_own, stays_own)

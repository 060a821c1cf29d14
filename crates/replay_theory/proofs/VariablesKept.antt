-- What is true of a variable stays true, and is true of the address that a call gives.
use Rattle.std.proofs.Common.{◌≡◌, ℕ, suc, ◌*◌, ◌<◌, Bool, true, false, cond, List, length, get_or, set, refl, sym, subst, inl}
use Rattle.std.proofs.{Common.{arith, Some, None, Option, Result, Ok, Err, ◌==◌, slice_set, replicate}, lemmas.Bool.{cases_eq}}
use Rattle.std.{proofs.lemmas.List.{get_or-set_same, get_or-set_other}, specs.Result.{result_ok, result_unwrap_or}}
use Rattle.class_table.specs.{Sizes.{chunk_granules}}
use Rattle.heap_theory.proofs.CallsKept.{KeepsGiven, KeepsGiven-refl, KeepsGiven-with_payload, KeepsGiven-resized, KeepsGiven-moved}
use Rattle.heap_theory.proofs.{CallsKept.{HeapChange, state_at-given_out, state_at-given_out_other, layout-given_out}, HeapKept.{in_states}}
use Rattle.heap_theory.proofs.{Lookups.{slot_for_request-cases, chunk_at-is}, Tags.{IsTagOf-next_tag, next_tag-differs}}
use Rattle.heap_theory.specs.Calls.{Step, given_out, with_payload, moved, malloc_with, malloc_step, calloc_with}
use Rattle.heap_theory.specs.Calls.{calloc_step, stays_in_class, slot_if_moved, move_with, as_realloc, realloc_with, realloc_step}
use Rattle.heap_theory.specs.{Lookups.{Chunk, IsReusable, MayBeGiven, slot_for_request, chunk_at}}
use Rattle.heap_theory.specs.State.{Heap, pointer_to}
use Rattle.heap_theory.specs.declared.refusal.{FreeError.{FreeError}, ReallocError.{ReallocError}}
use Rattle.replay_theory.specs.{Replay.{variable}, Run.{Run, Generation, times_of, generation_of, times_with, begun_or}}
use Rattle.replay_theory.specs.SoundRun.{IsAddressOf, IsSoundVariable, IsSoundRun}

-- ---- addresses

IsAddressOf-kept : (h new : Heap) (times : List ℕ) (a s m : ℕ) → KeepsGiven h new → IsAddressOf h times a s m → IsAddressOf new times a s m
IsAddressOf-kept h new times a s m kept i = grind arith

-- slot r is given out
module _ (h : Heap) (times : List ℕ) (r n : ℕ) (tag_below : h.tag < 16) (within : r < length h.states) (in_times : r < length times) where
  times_now : (t : ℕ) → get_or (set times r t) r 0 ≡ t
  times_now t = get_or-set_same times r t 0 in_times

  IsAddressOf-given_out : (a s m : ℕ) → IsAddressOf h times a s m →
      IsAddressOf (given_out h r n) (slice_set times r (suc (get_or times r 0))) a s m
  IsAddressOf-given_out a s m i =
      grind (
        arith,
        cases_eq,
        get_or-set_other,
        state_at-given_out_other,
        set,
        times_now,
        state_at-given_out,
        next_tag-differs,
        layout-given_out,
      )

-- ---- variables

IsSoundVariable-kept : (h new : Heap) (times : List ℕ) (a : ℕ) (g : Option Generation) → KeepsGiven h new → IsSoundVariable h times a g →
    IsSoundVariable new times a g
IsSoundVariable-kept h new times a g kept i = grind (arith, IsAddressOf-kept)

-- the variable of a request is right after its call: it has the answer, or where there is none this address
abbrev pub IsRight : {E : Type 0} → Run → ℕ → Option Generation → Step (Result ℕ E) → Option ℕ → Type 0
IsRight w address generation step given =
    IsSoundVariable step.heap (times_with w given) (result_unwrap_or step.answer address) (begun_or w generation given)

module _ (w : Run) (sound : IsSoundRun w) where
  in_states_of : (s : ℕ) → IsReusable w.replay.heap s → s < length w.replay.heap.states
  in_states_of s reusable = in_states w.replay.heap s sound.heap reusable.in_range

  in_times_of : (s : ℕ) → IsReusable w.replay.heap s → s < length w.times
  in_times_of s reusable = subst (λ n. s < n) (sym sound.times) reusable.in_range

  -- a variable that an event does not set
  pub IsSoundVariable-other : (new : Heap) (given : Option ℕ) (a : ℕ) (g : Option Generation) → HeapChange w.replay.heap new given →
      IsSoundVariable w.replay.heap w.times a g → IsSoundVariable new (times_with w given) a g
  IsSoundVariable-other new None a g change i = IsSoundVariable-kept w.replay.heap new w.times a g change i
  IsSoundVariable-other new (Some s) a None change i = record { null_or_tagged = i.null_or_tagged; follows = tt }
  IsSoundVariable-other new (Some s) a (Some g) change i = record {
    null_or_tagged = i.null_or_tagged;
    follows = IsAddressOf-kept (given_out w.replay.heap s change.n) new (times_with w (Some s)) a g.slot g.time change.kept
        (IsAddressOf-given_out w.replay.heap w.times s change.n sound.heap.tag_below (in_states_of s change.given.reusable)
        (in_times_of s change.given.reusable) a g.slot g.time i.follows);
  }

  -- a variable that an event sets to the address of a slot that it gives out
  IsSoundVariable-new : (new : Heap) (s n : ℕ) → MayBeGiven w.replay.heap n s → KeepsGiven (given_out w.replay.heap s n) new →
      IsSoundVariable new (times_with w (Some s)) (pointer_to (given_out w.replay.heap s n) s)
      (Some (record { slot = s; time = suc (times_of w s) }))
  IsSoundVariable-new new s n given kept = grind (arith, IsTagOf-next_tag, state_at-given_out, layout-given_out, times_now)

  -- ---- what a call gives

  none_given : {new : Heap} → IsSoundVariable new w.times 0 None
  none_given = record { null_or_tagged = inl refl; follows = tt }

  pub IsSoundVariable-malloc : (n : ℕ) →
      IsRight w 0 None (malloc_step w.replay.heap n) (result_ok (slot_for_request w.replay.heap n))
  unfolding malloc_step
  IsSoundVariable-malloc n =
      slot_for_request-cases w.replay.heap n sound.heap (λ r. IsRight w 0 None (malloc_with w.replay.heap n r) (result_ok r))
      (λ cause. none_given)
      (λ s given. IsSoundVariable-new (given_out w.replay.heap s n) s n given (KeepsGiven-refl (given_out w.replay.heap s n)))

  pub IsSoundVariable-calloc : (n : ℕ) →
      IsRight w 0 None (calloc_step w.replay.heap n) (result_ok (slot_for_request w.replay.heap n))
  unfolding calloc_step
  IsSoundVariable-calloc n =
      let zeroes = replicate (16 * chunk_granules n) 0 in
      slot_for_request-cases w.replay.heap n sound.heap (λ r. IsRight w 0 None (calloc_with w.replay.heap n r) (result_ok r))
      (λ cause. none_given)
      (λ s given. IsSoundVariable-new (with_payload (given_out w.replay.heap s n) s zeroes) s n given
      (KeepsGiven-with_payload (given_out w.replay.heap s n) s zeroes))

  pub IsSoundVariable-realloc : (v n : ℕ) →
      IsRight w (variable w.replay v) (generation_of w v) (realloc_step w.replay.heap (variable w.replay v) n)
      (cond (variable w.replay v == 0) (result_ok (slot_for_request w.replay.heap n))
      (slot_if_moved w.replay.heap n (chunk_at w.replay.heap (variable w.replay v))))
  unfolding realloc_step malloc_step
  IsSoundVariable-realloc v n =
      either (p == 0) _ _ _ _
      (λ _. slot_for_request-cases h n sound.heap (λ r. After (as_realloc (malloc_with h n r)) (result_ok r)) (λ cause. sound.variables v)
      (λ s given. IsSoundVariable-new (given_out h s n) s n given (KeepsGiven-refl (given_out h s n))))
      (λ _. by_chunk (chunk_at h p) refl)
    where
      h : Heap
      h = w.replay.heap

      p : ℕ
      p = variable w.replay v

      After : Step (Result ℕ ReallocError) → Option ℕ → Type 0
      After = IsRight w (variable w.replay v) (generation_of w v)

      either : (b : Bool) (x y : Step (Result ℕ ReallocError)) (o q : Option ℕ) → (b ≡ true → After x o) → (b ≡ false → After y q) →
          After (cond b x y) (cond b o q)
      either true x y o q so not_so = so refl
      either false x y o q so not_so = not_so refl

      by_chunk : (r : Result Chunk FreeError) → chunk_at h p ≡ r → After (realloc_with h p n r) (slot_if_moved h n r)
      by_chunk (Err error) was = sound.variables v
      by_chunk (Ok chunk) was =
          let c = chunk_at-is h p chunk was in
          either (stays_in_class h chunk n) _ _ None _
          (grind (arith, IsSoundVariable-kept, KeepsGiven-resized))
          (λ _. slot_for_request-cases h n sound.heap (λ r. After (move_with h chunk n r) (result_ok r)) (λ cause. sound.variables v)
          (λ s given. IsSoundVariable-new (moved h chunk s n) s n given (KeepsGiven-moved h p chunk s n sound.heap c given)))

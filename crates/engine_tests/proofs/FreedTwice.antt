-- A chunk that was freed is not live.
use Rattle.std.proofs.Common.{◌≡◌, ◌≢◌, arith, ℕ, ◌<◌, Bool, true, false, cond, Option, Some, None, Result, Ok, Err, refl, sym, ap, ◌∙◌}
use Rattle.std.proofs.{Common.{length, ⊎_elim, ◌==◌}, lemmas.Bool.{cases_lt, eqb-true}, lemmas.List.{get_or-set_same, get_or_past}}
use Rattle.heap_theory.specs.{Calls.{Step, free_step, free_with, freed}, State.{State, Heap, state_at}, State.State.{Fresh, Live, Dead}}
use Rattle.heap_theory.specs.{Lookups.{Chunk, chunk_at, chunk_in, chunk_in_slot, slot_of_pointer}, declared.refusal.FreeError.{FreeError}}
use Rattle.heap_theory.specs.declared.refusal.FreeError.TheVariants.{NotLive}

abbrev FreeStep : Type 0
FreeStep = Step (Result (Unit {0}) FreeError)

module _ (h : Heap) (p : ℕ) where
  -- a slot that is live is one of the heap's
  live_is_within : (s size tag : ℕ) → state_at h s ≡ Live size tag → s < length h.states
  live_is_within s size tag live =
      ⊎_elim (λ lt. lt) (λ past. absurd (fresh_is_not_live (sym (get_or_past h.states s Fresh past) ∙ live))) (cases_lt s (length h.states))
    where
      fresh_is_not_live : Fresh ≡ Live size tag → ⊥
      fresh_is_not_live e = cc

  -- what a second free of a slot finds there
  not_live_any_more : (chunk : Chunk) (s size tag : ℕ) → chunk.slot ≡ s → s < length h.states →
      chunk_in p s (state_at (freed h chunk.slot chunk.size) s) ≡ Err NotLive
  unfolding freed
  not_live_any_more chunk s size tag same within = rw (same, get_or-set_same h.states s _ Fresh within) refl

  pub freed_is_not_live : (chunk : Chunk) → chunk_at h p ≡ Ok chunk → chunk_at (freed h chunk.slot chunk.size) p ≡ Err NotLive
  unfolding chunk_at freed
  freed_is_not_live chunk is = from (slot_of_pointer h p) refl is
    where
      in_state : (s : ℕ) (x : State) → state_at h s ≡ x → chunk_in p s x ≡ Ok chunk → chunk_in p s (state_at (freed h chunk.slot chunk.size) s) ≡ Err NotLive
      in_state s Fresh was e = absurd cc
      in_state s (Dead size tag mark) was e = absurd cc
      in_state s (Live size tag) was e = not_live_any_more chunk s size tag (same_slot s size tag e) (live_is_within s size tag was)
        where
          same_slot : (s size tag : ℕ) → chunk_in p s (Live size tag) ≡ Ok chunk → chunk.slot ≡ s
          same_slot s size tag e = grind arith

      from : (o : Option ℕ) → slot_of_pointer h p ≡ o → chunk_in_slot h p o ≡ Ok chunk →
          chunk_in_slot (freed h chunk.slot chunk.size) p (slot_of_pointer (freed h chunk.slot chunk.size) p) ≡ Err NotLive
      from None found e = absurd cc
      from (Some s) found e = rw found (in_state s (state_at h s) refl e)

  -- away from null, `free` takes the chunk at the pointer
  free_step-is : p ≢ 0 → free_step h p ≡ free_with h (chunk_at h p)
  unfolding free_step
  free_step-is not_null = by_null (p == 0) refl
    where
      by_null : (b : Bool) → (p == 0) ≡ b → cond b (record { heap = h; answer = Ok tt }) (free_with h (chunk_at h p)) ≡ free_with h (chunk_at h p)
      by_null true is = absurd (not_null (eqb-true p 0 is))
      by_null false is = refl

-- a second free is refused
pub second_free : (h : Heap) (p : ℕ) → p ≢ 0 → (free_step h p).answer ≡ Ok tt → (free_step (free_step h p).heap p).answer ≡ Err NotLive
second_free h p not_null accepted = by_chunk (chunk_at h p) refl (sym (ap (λ (s : FreeStep). s.answer) (free_step-is h p not_null)) ∙ accepted)
  where
    by_chunk : (r : Result Chunk FreeError) → chunk_at h p ≡ r → (free_with h r).answer ≡ Ok tt →
        (free_step (free_step h p).heap p).answer ≡ Err NotLive
    by_chunk (Err error) was ok = absurd cc
    by_chunk (Ok chunk) was ok =
        let after : (free_step h p).heap ≡ freed h chunk.slot chunk.size =
        ap (λ (s : FreeStep). s.heap) (free_step-is h p not_null ∙ ap (free_with h) was) in
        rw after
        (ap (λ (s : FreeStep). s.answer)
        (free_step-is (freed h chunk.slot chunk.size) p not_null
        ∙ ap (free_with (freed h chunk.slot chunk.size)) (freed_is_not_live h p chunk was)))

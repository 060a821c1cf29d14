-- What a call makes of a heap, by what is chosen for it.
use Rattle.std.proofs.Common.{◌≡◌, ℕ, ◌<◌, List, refl, ◌∙◌, Ok, Err, ◌≢◌, ◌+◌, sym, subst, arith, Result}
use Rattle.std.proofs.{Common.{IfOk, IfErr, OnErr, if◌then◌else◌, is_some, ◌↔◌}, lemmas.List.{get_or-set_other}}
use Rattle.std.specs.Result.{result_map_both, result_ok}
use Rattle.heap_theory.{proofs.OwnPointers.{free_accepts, realloc_accepts}, specs.Lookups.{slot_for_request, Chunk, IsReusable}}
use Rattle.heap_theory.specs.{Calls.{given_out, with_payload, move_with, moved, payload_bytes, free_step, realloc_step}, State.State.{Live}}
use Rattle.heap_theory.specs.{OwnPointers.{IsNotRefused, IsNullOrOwn}, Sound.{IsSoundHeap}, declared.refusal.FreeError.{FreeError}}
use Rattle.heap_theory.specs.{State.{Heap, slot_in, state_at, pointer_to}, declared.refusal.NullCause.{NullCause}}
use Rattle.heap_theory.specs.declared.refusal.{ReallocError.{ReallocError}, ReallocError.TheVariants.{Null}}
use Rattle.class_table.specs.Sizes.{chunk_granules}
use Rattle.machine_theory.specs.Memory.{Granule, bytes_at, tagged}
use Rattle.tagged_heap.specs.{Chunks.{IsChunk}, HeapAtRest.{HeapAndFrees}, declared.freeing.Chunk.{Chunk as Found}}

-- ---- what a slot that is given out leaves

pub room_given : (h : Heap) (n s r : ℕ) → chunk_granules n < (slot_in h r).class → chunk_granules n < (slot_in (given_out h s n) r).class
unfolding given_out
room_given h n s r room = room

-- ---- a chunk that moves

-- what a move leaves where it has a slot
abbrev pub IsMoved : HeapAndFrees → Chunk → ℕ → HeapAndFrees → ℕ → Type 0
IsMoved old chunk n new p =
    (s : ℕ) × (slot_for_request old.state n ≡ Ok s) × (p ≡ pointer_to (given_out old.state s n) s) ×
    (new ≡ record { state = moved old.state chunk s n; frees = old.frees + 1 })

-- and what the call answers and leaves then, or where it has none
pub record IsMove (old new : HeapAndFrees) (chunk : Chunk) (n : ℕ) (r : Result ℕ NullCause) : Type 0 where
  pub answer : result_map_both (λ p. p) Null r ≡ (move_with old.state chunk n (slot_for_request old.state n)).answer
  pub state : new.state ≡ (move_with old.state chunk n (slot_for_request old.state n)).heap
  pub counted : new.frees ≡ old.frees + (if is_some (result_ok (slot_for_request old.state n)) then 1 else 0)

pub moves : (old new : HeapAndFrees) (chunk : Chunk) (n : ℕ) (r : Result (ℕ × ℕ) NullCause) →
    IfOk r (λ given. IsMoved old chunk n new given.0) → IfErr r (λ cause. slot_for_request old.state n ≡ Err cause) →
    OnErr r (new ≡ old) → IsMove old new chunk n (result_map_both (λ given. given.0) (λ e. e) r)
moves old new chunk n x4 ok err same = grind arith

-- ---- the parts of a move

-- tags are no bytes
pub payload_given :
    ((first count tag j len : ℕ) (memory : List Granule) → bytes_at (tagged first count tag memory) j len ≡ bytes_at memory j len) →
    (h : Heap) (s n r count : ℕ) → payload_bytes (given_out h s n) r count ≡ payload_bytes h r count
unfolding given_out
payload_given law h s n r count = law _ _ _ _ _ _ ∙ law _ _ _ _ _ _

-- a live slot is no slot that is given
pub live_apart : (h : Heap) (r s size tag : ℕ) → state_at h r ≡ Live size tag → IsReusable h s → r ≢ s
live_apart h r s size tag live reusable is = grind arith

-- so a live chunk stays one while another slot is given out and written
pub chunk_stays : (h : Heap) (s n : ℕ) (chunk : Found) → IsChunk h chunk → IsReusable h s → IsChunk (given_out h s n) chunk
unfolding given_out
chunk_stays h s n chunk is reusable = grind (arith, get_or-set_other, live_apart)

pub chunk_written : (h : Heap) (s : ℕ) (bytes : List ℕ) (chunk : Found) → IsChunk h chunk → IsChunk (with_payload h s bytes) chunk
unfolding with_payload
chunk_written h s bytes chunk is = grind arith

pub same_slot : (h : Heap) (s n r : ℕ) → slot_in (given_out h s n) r ≡ slot_in h r
unfolding given_out
same_slot h s n r = refl

-- ---- what a call answers is its definition's answer, and so says which pointers it accepts

pub free_accepted : (h : Heap) (p : ℕ) (r : Result (Unit {0}) FreeError) → IsSoundHeap h →
    r ≡ (free_step h p).answer → (r ≡ Ok tt) ↔ IsNullOrOwn h p
free_accepted h p r sound is = subst (λ r. (r ≡ Ok tt) ↔ IsNullOrOwn h p) (sym is) (free_accepts h p sound)

pub realloc_accepted : (h : Heap) (p n : ℕ) (r : Result ℕ ReallocError) → IsSoundHeap h →
    r ≡ (realloc_step h p n).answer → IsNotRefused r ↔ IsNullOrOwn h p
realloc_accepted h p n r sound is = subst (λ r. IsNotRefused r ↔ IsNullOrOwn h p) (sym is) (realloc_accepts h p n sound)

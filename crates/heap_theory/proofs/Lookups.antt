-- What is true of the slot that a request is given, and of the chunk that a pointer names.
use Rattle.std.proofs.Common.{◌≡◌, ℕ, ◌^◌, ◌<◌, ◌≤◌, Bool, true, List, refl, sym, ap, ◌∙◌, inl, arith, Some, None, Option, Result, Ok, Err}
use Rattle.std.proofs.{Common.{◌==◌, ◌&&◌, nat_le, All}, lemmas.Bool.{eqb-true, leb-true, ltb-true, and_parts, cases_Bool}}
use Rattle.std.proofs.lemmas.List.{Elements.{All-filter, filter_passes}, Quantifiers.{position-Some}}
use Rattle.std.specs.{List.{range_with_len, list_all}, Option.{ok_or, option_or}}
use Rattle.machine_theory.specs.Address.{place_of}
use Rattle.class_table.specs.{Layout.{slot_count}, Sizes.{chunk_granules}, Tables.{class_for}}
use Rattle.heap_theory.{proofs.ListSearch.{All-find, find_passes, first_in_filter, All-range}, specs.Calls.{is_class_of, stays_in_class}}
use Rattle.heap_theory.specs.Lookups.{Chunk, IsReusable, MayBeGiven, IsLiveChunk, slots_with, freed_last, lowest_fresh, slot_for}
use Rattle.heap_theory.specs.{Lookups.{class_for_request, slot_in_class, slot_for_request, slot_of_pointer, chunk_at}, Sound.{IsSoundHeap}}
use Rattle.heap_theory.specs.State.{State, Heap, slot_in, state_at, is_fresh, payload_place, is_released, mark_of}
use Rattle.heap_theory.specs.declared.refusal.{NullCause.{NullCause}, NullCause.TheVariants.{Exhausted}}

-- ---- slots of a class

pub record IsCandidate (h : Heap) (test : State → Bool) (class s : ℕ) : Type 0 where
  pub in_range : s < slot_count h.layout
  pub of_class : (slot_in h s).class ≡ class
  pub passes : test (state_at h s) ≡ true

pub All-slots_with : (h : Heap) (test : State → Bool) (class : ℕ) → All (IsCandidate h test class) (slots_with h test class)
All-slots_with h test class k d within =
    let both =
    and_parts _ _ (grind (arith, filter_passes)) in
    record {
      in_range =
          All-filter (λ s. (slot_in h s).class == class && test (state_at h s)) (λ s. s < slot_count h.layout)
          (range_with_len 0 (slot_count h.layout)) (All-range (slot_count h.layout)) k d within;
      of_class = eqb-true _ _ both.0;
      passes = both.1;
    }

pub lowest_fresh-is : (h : Heap) (class s : ℕ) → lowest_fresh h class ≡ Some s → IsCandidate h is_fresh class s
lowest_fresh-is h class s is =
    let found =
    sym (first_in_filter (λ s. (slot_in h s).class == class && is_fresh (state_at h s)) (range_with_len 0 (slot_count h.layout)))
    ∙ is in
    let both =
    and_parts _ _ (grind (arith, find_passes)) in
    record {
      in_range =
          All-find (λ s. s < slot_count h.layout) (λ s. (slot_in h s).class == class && is_fresh (state_at h s))
          (range_with_len 0 (slot_count h.layout)) s (All-range (slot_count h.layout)) found;
      of_class = eqb-true _ _ both.0;
      passes = both.1;
    }

-- the test of the slot that was freed last
abbrev pub is_latest : Heap → List ℕ → ℕ → Bool
is_latest h slots s = list_all (λ r. nat_le (mark_of (state_at h r)) (mark_of (state_at h s))) slots

pub freed_last-is : (h : Heap) (class s : ℕ) → freed_last h (slots_with h (is_released h) class) ≡ Some s →
    IsCandidate h (is_released h) class s
freed_last-is h class s is =
    All-find (IsCandidate h (is_released h) class) (is_latest h (slots_with h (is_released h) class)) (slots_with h (is_released h) class) s
    (All-slots_with h (is_released h) class) is

slot_for-is : (h : Heap) (class s : ℕ) → slot_for h class ≡ Some s → IsReusable h s × ((slot_in h s).class ≡ class)
unfolding slot_for
slot_for-is h class s is = from (freed_last h (slots_with h (is_released h) class)) refl is
  where
    from : (o : Option ℕ) → freed_last h (slots_with h (is_released h) class) ≡ o → option_or o (lowest_fresh h class) ≡ Some s →
        IsReusable h s × ((slot_in h s).class ≡ class)
    from None was is = let c = lowest_fresh-is h class s is in (record { in_range = c.in_range; free = inl c.passes }, c.of_class)
    from (Some r) was is =
        let c = freed_last-is h class r was in
        grind arith

-- ---- the slot of a request

-- a class that serves a request has room for its chunk
pub room_in : (classes : List ℕ) (n class : ℕ) → class_for classes n ≡ Some class → 2 ≤ class → chunk_granules n < class
room_in classes n class found wide = grind (arith, leb-true, find_passes)

-- the class of a request is the table's
pub class_for_request-is : (h : Heap) (n class : ℕ) → class_for_request h n ≡ Ok class → class_for h.layout.classes n ≡ Some class
class_for_request-is h n class is = grind (arith, cases_Bool)

pub slot_for_request-is : (heap : Heap) (n s : ℕ) → IsSoundHeap heap → slot_for_request heap n ≡ Ok s → MayBeGiven heap n s
unfolding slot_for_request
slot_for_request-is h n s sound is = in_class (class_for_request h n) refl is
  where
    in_slot : (class : ℕ) → class_for h.layout.classes n ≡ Some class → (o : Option ℕ) → slot_for h class ≡ o → ok_or o Exhausted ≡ Ok s →
        MayBeGiven h n s
    in_slot class was None given is = absurd cc
    in_slot class was (Some r) given is =
        let same : r ≡ s = cc in
        let chosen = slot_for-is h class s (given ∙ ap Some same) in
        let found : class_for h.layout.classes n ≡ Some (slot_in h s).class = was ∙ ap Some (sym chosen.1) in
        record { reusable = chosen.0; class = found; room = room_in h.layout.classes n _ found (sound.slots.wide s chosen.0.in_range) }

    in_class : (r : Result ℕ NullCause) → class_for_request h n ≡ r → slot_in_class h r ≡ Ok s → MayBeGiven h n s
    in_class (Err cause) was is = absurd cc
    in_class (Ok class) was is = in_slot class (class_for_request-is h n class was) (slot_for h class) refl is

-- what holds of each refusal and of each slot that may be given holds of what a request is given
pub slot_for_request-cases : (h : Heap) (n : ℕ) → IsSoundHeap h → (P : Result ℕ NullCause → Type 0) →
    ((cause : NullCause) → P (Err cause)) → ((s : ℕ) → MayBeGiven h n s → P (Ok s)) → P (slot_for_request h n)
slot_for_request-cases h n sound P refused given = grind (arith, slot_for_request-is)

-- ---- the chunk of a pointer

pub slot_of_pointer-is : (h : Heap) (p s : ℕ) → slot_of_pointer h p ≡ Some s →
    (s < slot_count h.layout) × (p < 2 ^ 60) × (place_of p ≡ payload_place (slot_in h s))
slot_of_pointer-is h p s is = grind (arith, eqb-true, ltb-true, position-Some)

pub chunk_at-is : (heap : Heap) (p : ℕ) (chunk : Chunk) → chunk_at heap p ≡ Ok chunk → IsLiveChunk heap p chunk
unfolding chunk_at
chunk_at-is h p chunk is = grind (arith, cases_Bool, eqb-true, slot_of_pointer-is)

-- a chunk that stays in its class has room there
pub room_in_place : (h : Heap) (chunk : Chunk) (n : ℕ) → stays_in_class h chunk n ≡ true → 2 ≤ (slot_in h chunk.slot).class →
    chunk_granules n < (slot_in h chunk.slot).class
room_in_place h chunk n stays wide = by_class (class_for_request h n) refl stays
  where
    by_class : (r : Result ℕ NullCause) → class_for_request h n ≡ r → is_class_of (slot_in h chunk.slot) r ≡ true →
        chunk_granules n < (slot_in h chunk.slot).class
    by_class (Err cause) was is = absurd cc
    by_class (Ok class) was is = room_in h.layout.classes n _ (class_for_request-is h n class was ∙ ap Some (eqb-true _ _ is)) wide

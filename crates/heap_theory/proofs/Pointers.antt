-- Which slot a pointer names, and which fresh slot is the lowest.
use Rattle.std.proofs.Common.{◌≡◌, ℕ, ◌^◌, ◌<◌, Bool, true, false, get_or, refl, sym, ap, ◌∙◌, subst, arith, Some, None, Option, ◌==◌, ◌&&◌}
use Rattle.std.proofs.{Common.{slice_get, ◌↔◌, IsTrue, IsFalse, Ok}, lemmas.List.Folds.{find_at}, lemmas.List.Sums.{position_or_len_is}}
use Rattle.std.proofs.lemmas.Bool.{and_from, and_parts, cond-true, eq-eqb, eqb-true, lt-ltb, false_from_ne_true, both_ways}
use Rattle.std.proofs.lemmas.{List.FromFn.{get_or-range_with_len, length-range_with_len}, Option.{slice_get-get_or}}
use Rattle.std.specs.List.{find, position_or_len, range_with_len}
use Rattle.machine_theory.specs.Address.{place_of}
use Rattle.class_table.specs.Layout.{slot_count}
use Rattle.heap_theory.{proofs.ListSearch.{first_in_filter}, proofs.Lookups.{slot_of_pointer-is, lowest_fresh-is}, specs.State.State.{Live}}
use Rattle.heap_theory.specs.{Lookups.{lowest_fresh, slot_of_pointer, chunk_at}, Sound.{IsSoundHeap}}
use Rattle.heap_theory.specs.State.{Heap, slot_in, state_at, is_fresh, payload_place, pointer_to, IsSlot}

-- ---- the slot of a pointer

pub slot_of_pointer-iff : (heap : Heap) (p s : ℕ) → IsSoundHeap heap → (slot_of_pointer heap p ≡ Some s) ↔ (IsSlot heap s × (p < 2 ^ 60)
    × (place_of p ≡ payload_place (slot_in heap s)))
slot_of_pointer-iff h p s sound = grind (arith, slot_of_pointer-is, position_or_len_is, eqb-true, eq-eqb, lt-ltb)

pub own_chunk : (heap : Heap) (s n tag : ℕ) → IsSoundHeap heap → IsSlot heap s → state_at heap s ≡ Live n tag →
    chunk_at heap (pointer_to heap s) ≡ Ok (record { slot = s; size = n })
unfolding chunk_at
own_chunk h s n t sound within live = grind (arith, slot_of_pointer-iff, cond-true, eq-eqb)

-- ---- the lowest fresh slot

-- the first number below a bound that passes
find_below : (p : ℕ → Bool) (n s : ℕ) → s < n → p s ≡ true → ((r : ℕ) → r < s → p r ≡ false) → find p (range_with_len 0 n) ≡ Some s
find_below p n s within passes before =
    let at : (k : ℕ) → k < n → get_or (range_with_len 0 n) k 0 ≡ k = λ k inside. get_or-range_with_len 0 n k 0 inside ∙ omega arith in
    let long = length-range_with_len 0 n in
    let place : position_or_len p (range_with_len 0 n) ≡ s =
    position_or_len_is p (range_with_len 0 n) s 0 (omega arith)
    (λ r less. subst (λ k. p k ≡ false) (sym (at r (omega arith))) (before r less))
    (λ inside. subst (λ k. p k ≡ true) (sym (at s within)) passes) in
    find_at p (range_with_len 0 n)
    ∙ ap (slice_get (range_with_len 0 n)) place
    ∙ slice_get-get_or (range_with_len 0 n) s 0 (omega arith)
    ∙ ap Some (at s within)

pub lowest_fresh-first : (heap : Heap) (class s : ℕ) → IsSlot heap s → (slot_in heap s).class ≡ class →
    IsTrue (is_fresh (state_at heap s)) → ((r : ℕ) → r < s → (slot_in heap r).class ≡ class → IsFalse (is_fresh (state_at heap r))) →
    lowest_fresh heap class ≡ Some s
lowest_fresh-first h class s within of_class fresh before =
    first_in_filter (λ s. (slot_in h s).class == class && is_fresh (state_at h s)) (range_with_len 0 (slot_count h.layout))
    ∙ find_below (λ s. (slot_in h s).class == class && is_fresh (state_at h s)) (slot_count h.layout) s within
    (and_from _ _ (eq-eqb _ _ of_class) fresh)
    (grind (arith, false_from_ne_true, and_parts, both_ways, eqb-true))

pub lowest_fresh-none : (heap : Heap) (class : ℕ) → ((r : ℕ) → IsSlot heap r → (slot_in heap r).class ≡ class →
    IsFalse (is_fresh (state_at heap r))) → lowest_fresh heap class ≡ None
lowest_fresh-none h class none = by (lowest_fresh h class) refl
  where
    by : (o : Option ℕ) → lowest_fresh h class ≡ o → lowest_fresh h class ≡ None
    by None was = was
    by (Some s) was = let c = lowest_fresh-is h class s was in absurd (both_ways _ (none s c.in_range c.of_class) c.passes)

-- What putting a slot after a queue, and taking one off its front, make of it.
use Rattle.std.proofs.Common.{◌≡◌, ◌≢◌, ℕ, suc, ◌+◌, ◌-◌, ◌<◌, ◌≤◌, List, [], ◌∷◌, ◌++◌, length, drop, refl, sym, ap, ◌∙◌, subst, ⊎_elim}
use Rattle.std.proofs.{Common.{arith, Contains}, lemmas.List.Elements.{Contains-push_cases}}
use Rattle.std.proofs.lemmas.List.Sums.{sum_by-cons, sum_by_push}
use Rattle.class_table.specs.Layout.{Partition, block_bytes, slot_count, slot_of}
use Rattle.heap_theory.proofs.{ListSearch.{Contains-tail, AllPairs-first}, Regions.{other_link, own_link}}
use Rattle.heap_theory.specs.{Links.{IsLinked, last_link}, QueueAndLists.{bytes_of}, Region.{Region, next_in, with_slot_link}}
use Rattle.quarantine_core.{proofs.TheoryLemmas.{each_once, last_ends, links_stay, put_after, put_is_last}, specs.Queue.{Queue, AreQueued}}

-- ---- a slot is put in

-- a list whose last link is 0 has no slot
no_last : (queue : List ℕ) → last_link queue ≡ 0 → queue ≡ []
no_last [] is = refl
no_last (s ∷ []) is = absurd (omega (arith, is))
no_last (s ∷ r ∷ rest) is = absurd (some r rest is)
  where
    some : (r : ℕ) (rest : List ℕ) → last_link (r ∷ rest) ≡ 0 → ⊥
    some r [] is = omega (arith, is)
    some r (q ∷ more) is = some q more is

-- the last slot is of the layout
pub last_within : (value : Queue) (layout : Partition) (region : Region) (queue : List ℕ) → AreQueued value layout region queue →
    value.back ≢ 0 →
    value.back - 1 < slot_count layout
last_within value layout region queue old some =
    old.slots (value.back - 1)
    (last_ends (next_in region) value.front (value.back - 1) queue old.linked (omega (arith, old.back, some))).0

-- the slot that is put in last starts where it was said
starts_there : (layout : Partition) (slot : ℕ) (new : Queue) → new.back_start ≡ (slot_of layout slot).start → new.back ≡ suc slot →
    (last : ℕ) → new.back ≡ last + 1 → new.back_start ≡ (slot_of layout last).start
starts_there layout slot new start back last is = grind arith

pub put_first : (value new : Queue) (layout : Partition) (region : Region) (queue : List ℕ) (slot bytes : ℕ) →
    new.back_start ≡ (slot_of layout slot).start → AreQueued value layout region queue → value.back ≡ 0 → slot < slot_count layout → next_in region slot ≡ 0 →
    bytes ≡ block_bytes (slot_of layout slot) →
    new.front ≡ suc slot → new.back ≡ suc slot → new.held ≡ value.held + bytes → AreQueued new layout region (queue ++ slot ∷ [])
put_first value new layout region queue slot bytes start old none within ends is front back held = grind (arith, no_last)

pub put_at_end : (value new : Queue) (layout : Partition) (region after : Region) (queue : List ℕ) (last slot next bytes : ℕ) →
    new.back_start ≡ (slot_of layout slot).start → AreQueued value layout region queue → length region.headers ≡ slot_count layout → value.back ≡ suc last →
    after ≡ with_slot_link region last next → next ≡ suc slot →
    slot < slot_count layout → (Contains queue slot → ⊥) → next_in region slot ≡ 0 → bytes ≡ block_bytes (slot_of layout slot) →
    new.front ≡ value.front → new.back ≡ suc slot → new.held ≡ value.held + bytes → AreQueued new layout after (queue ++ slot ∷ [])
put_at_end value new layout region after queue last slot next bytes start old long some link to within outside ends is front back held = record {
  slots = λ s there. ⊎_elim (old.slots s) (λ same. subst (λ n. n < slot_count layout) same within) (Contains-push_cases queue slot s there);
  linked =
      subst (λ f. IsLinked (next_in after) f (queue ++ slot ∷ [])) (sym front)
      (put_after (next_in region) (next_in after) value.front last slot queue old.linked (sym old.back ∙ some)
      (λ r there other. other_link region last next link r other)
      (own_link region last next link (subst (λ n. last < n) (sym long) (old.slots last in_queue)) ∙ to)
      (other_link region last next link slot another ∙ ends));
  back = back ∙ sym (put_is_last queue slot);
  back_start = starts_there layout slot new start back;
  held = held ∙ omega (arith, old.held, is, sum_by_push (λ s. block_bytes (slot_of layout s)) queue slot);
}
  where
    in_queue : Contains queue last
    in_queue = (last_ends (next_in region) value.front last queue old.linked (sym old.back ∙ some)).0

    another : slot ≢ last
    another same = outside (subst (Contains queue) (sym same) in_queue)

-- ---- a slot is taken off

-- a queue of some bytes has a first slot
pub some_held : (value : Queue) (layout : Partition) (region : Region) (queue : List ℕ) → AreQueued value layout region queue →
    0 < value.held →
    queue ≡ (value.front - 1) ∷ drop 1 queue
some_held value layout region queue old some = grind arith

-- which is of the layout
pub first_within : (value : Queue) (layout : Partition) (region : Region) (queue : List ℕ) → AreQueued value layout region queue →
    0 < value.held →
    (1 ≤ value.front) × (value.front - 1 < slot_count layout)
first_within value layout region [] old some = absurd (omega (arith, old.held))
first_within value layout region (s ∷ rest) old some =
    let within : s < slot_count layout = old.slots s (0, omega arith, refl) in
    (omega (arith, old.linked.0), omega (arith, old.linked.0))

pub take_oldest : (value new : Queue) (layout : Partition) (region after : Region) (slot next : ℕ) (queue : List ℕ) →
    AreQueued value layout region (slot ∷ queue) → after ≡ with_slot_link region slot 0 → next ≡ next_in region slot →
    new.front ≡ next → (next ≡ 0 → new.back ≡ 0) → (next ≢ 0 → new.back ≡ value.back) → new.back_start ≡ value.back_start →
    new.held + block_bytes (slot_of layout slot) ≡ value.held → AreQueued new layout after queue
take_oldest value new layout region after slot next queue old link is front none some start held = record {
  slots = λ s there. old.slots s (Contains-tail slot queue s there);
  linked =
      grind (arith, links_stay, same);
  back = back queue old.linked.1 old.back;
  back_start = grind arith;
  held = omega (arith, old.held, held, sum_by-cons (λ s. block_bytes (slot_of layout s)) slot queue);
}
  where
    same : (r : ℕ) → Contains queue r → next_in after r ≡ next_in region r
    same r there =
        other_link region slot 0 link r
        (λ is. AllPairs-first (λ s r. s ≢ r) slot queue r (each_once (next_in region) value.front (slot ∷ queue) old.linked) there
        (sym is))

    back : (queue : List ℕ) → IsLinked (next_in region) (next_in region slot) queue → value.back ≡ last_link (slot ∷ queue) →
        new.back ≡ last_link queue
    back [] linked last = none (is ∙ linked)
    back (r ∷ rest) linked last = some (λ zero. omega (arith, linked.0)) ∙ last

-- the first slot's block is among the bytes that are held
pub oldest_held : (value : Queue) (layout : Partition) (region : Region) (queue : List ℕ) (front bytes held : ℕ) →
    AreQueued value layout region queue → 0 < value.held → front ≡ value.front → bytes ≡ block_bytes (slot_of layout (front - 1)) →
    held ≡ value.held → bytes ≤ held
oldest_held value layout region queue front bytes held old some is block all =
    let first : queue ≡ (front - 1) ∷ drop 1 queue =
    subst (λ f. queue ≡ (f - 1) ∷ drop 1 queue) (sym is) (some_held value layout region queue old some) in
    let sum : bytes_of layout queue ≡ bytes_of layout ((front - 1) ∷ drop 1 queue) = ap (bytes_of layout) first in
    omega (arith, old.held, sum, block, all, sum_by-cons (λ s. block_bytes (slot_of layout s)) (front - 1) (drop 1 queue))

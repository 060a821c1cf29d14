-- Which slot a request is given, and which chunk a pointer names.
use Rattle.std.specs.{List.{range_with_len, list_all}, Option.{ok_or, option_or}}
use Rattle.std.specs.Prelude.{slice_get, Option, Some, None, Result, Ok, Err, ◌≡◌, ◌⊎◌, ℕ, ◌^◌, ◌<◌, Bool, IsTrue, ◌==◌, ◌&&◌, nat_lt}
use Rattle.std.specs.Prelude.{nat_le, if◌then◌else◌, List, filter, find, position}
use Rattle.machine_theory.specs.Address.{logical_tag, place_of}
use Rattle.class_table.specs.{Layout.{slots_of, slot_count}, Sizes.{largest_counted, chunk_granules}, Tables.{class_for}}
use Rattle.heap_theory.specs.State.{State, Heap, slot_in, state_at, is_fresh, mark_of, is_released, payload_place, IsSlot}
use Rattle.heap_theory.specs.{State.State.{Fresh, Live, Dead}, declared.refusal.FreeError.{FreeError}}
use Rattle.heap_theory.specs.declared.refusal.{FreeError.TheVariants.{Misplaced, NotLive, WrongTag}, NullCause.{NullCause}}
use Rattle.heap_theory.specs.declared.refusal.NullCause.TheVariants.{Large, NoClass, Exhausted}

-- ---- the slot for a request

-- the slots of a class whose state passes the test, in address order
abbrev pub slots_with : Heap → (State → Bool) → ℕ → List ℕ
slots_with heap test class =
    filter (λ s. (slot_in heap s).class == class && test (state_at heap s)) (range_with_len 0 (slot_count heap.layout))

-- the one of these slots that has the greatest mark
abbrev pub freed_last : Heap → List ℕ → Option ℕ
freed_last heap slots = find (λ s. list_all (λ r. nat_le (mark_of (state_at heap r)) (mark_of (state_at heap s))) slots) slots

-- the fresh slot of a class that is lowest
abbrev pub lowest_fresh : Heap → ℕ → Option ℕ
lowest_fresh heap class = slice_get (slots_with heap is_fresh class) 0

-- The slot that a class gives out next: of the freed slots that are not quarantined the one that was freed last, else the lowest
-- fresh one.
unfoldable pub slot_for : Heap → ℕ → Option ℕ
slot_for heap class = option_or (freed_last heap (slots_with heap (is_released heap) class)) (lowest_fresh heap class)

-- the class of a request, or why it has none
abbrev pub class_for_request : Heap → ℕ → Result ℕ NullCause
class_for_request heap n = if nat_lt largest_counted n then Err Large else ok_or (class_for heap.layout.classes n) NoClass

abbrev pub slot_in_class : Heap → Result ℕ NullCause → Result ℕ NullCause
slot_in_class heap (Ok class) = ok_or (slot_for heap class) Exhausted
slot_in_class heap (Err cause) = Err cause

-- The slot that a request of n bytes is given, or why it is given none.
unfoldable pub slot_for_request : Heap → ℕ → Result ℕ NullCause
slot_for_request heap n = slot_in_class heap (class_for_request heap n)

-- ---- the chunk of a pointer

-- the slot whose payload begins at the pointer's place
abbrev pub slot_of_pointer : Heap → ℕ → Option ℕ
slot_of_pointer heap p = if nat_lt p (2 ^ 60) then position (λ slot. payload_place slot == place_of p) (slots_of heap.layout) else None

-- A live chunk: its slot, and the bytes that were requested.
pub record Chunk : Type 0 where
  pub slot : ℕ
  pub size : ℕ

abbrev pub chunk_in : ℕ → ℕ → State → Result Chunk FreeError
chunk_in p s Fresh = Err NotLive
chunk_in p s (Live size tag) = if logical_tag p == tag then Ok (record { slot = s; size = size }) else Err WrongTag
chunk_in p s (Dead size tag mark) = Err NotLive

abbrev pub chunk_in_slot : Heap → ℕ → Option ℕ → Result Chunk FreeError
chunk_in_slot heap p None = Err Misplaced
chunk_in_slot heap p (Some s) = chunk_in p s (state_at heap s)

-- The live chunk that the pointer was given out for, or why there is none.
unfoldable pub chunk_at : Heap → ℕ → Result Chunk FreeError
chunk_at heap p = chunk_in_slot heap p (slot_of_pointer heap p)

-- ---- what is true of the chosen

-- a slot that may be given out: fresh, or released
pub record IsReusable (heap : Heap) (s : ℕ) : Type 0 where
  pub in_range : IsSlot heap s
  pub free : IsTrue (is_fresh (state_at heap s)) ⊎ IsTrue (is_released heap (state_at heap s))

-- a slot that may be given to a request of n bytes: reusable, of the request's class, and with room for its chunk
pub record MayBeGiven (heap : Heap) (n s : ℕ) : Type 0 where
  pub reusable : IsReusable heap s
  pub class : class_for heap.layout.classes n ≡ Some (slot_in heap s).class
  pub room : chunk_granules n < (slot_in heap s).class

-- the live chunk that a pointer names
pub record IsLiveChunk (heap : Heap) (p : ℕ) (chunk : Chunk) : Type 0 where
  pub in_range : IsSlot heap chunk.slot
  pub live : state_at heap chunk.slot ≡ Live chunk.size (logical_tag p)
  pub plain : p < 2 ^ 60
  pub place : place_of p ≡ payload_place (slot_in heap chunk.slot)

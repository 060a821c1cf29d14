-- What is true of every run: where the variables' addresses come from.
use Rattle.std.specs.Prelude.{◌≡◌, ◌≢◌, ℕ, suc, ◌≤◌, false, List, length, slice_index, Option, Some, None, ⊤}
use Rattle.machine_theory.specs.Address.{logical_tag, with_tag}
use Rattle.class_table.specs.Layout.{slot_count}
use Rattle.heap_theory.specs.{HeapTags.{IsNullOrTagged}, Sound.{IsTagOf, IsSoundHeap}}
use Rattle.heap_theory.specs.State.{Heap, slot_in, state_at, last_tag, is_fresh, payload_place, IsSlot}
use Rattle.replay_theory.specs.{Replay.{variable}, Run.{Run, Generation, generation_of}}

-- The address is that of the slot's payload, under the tag with which the slot was given out the time-th time. This is the slot's own tag
-- if that was the last time, and another tag if it was the last time but one.
pub record IsAddressOf (heap : Heap) (times : List ℕ) (address s time : ℕ) : Type 0 where
  pub in_range : IsSlot heap s
  pub address_is : address ≡ with_tag (payload_place (slot_in heap s)) (logical_tag address)
  pub tag : IsTagOf s (logical_tag address)
  pub past : time ≤ slice_index times s
  pub last : time ≡ slice_index times s → (logical_tag address ≡ last_tag (state_at heap s)) × (is_fresh (state_at heap s) ≡ false)
  pub last_but_one : suc time ≡ slice_index times s → logical_tag address ≢ last_tag (state_at heap s)

abbrev pub ForGeneration : Option Generation → (ℕ → ℕ → Type 0) → Type 0
ForGeneration None P = ⊤
ForGeneration (Some generation) P = P generation.slot generation.time

pub record IsSoundVariable (heap : Heap) (times : List ℕ) (address : ℕ) (generation : Option Generation) : Type 0 where
  pub null_or_tagged : IsNullOrTagged address
  pub follows : ForGeneration generation (λ s time. IsAddressOf heap times address s time)

pub record IsSoundRun (run : Run) : Type 0 where
  pub heap : IsSoundHeap run.replay.heap
  pub times : length run.times ≡ slot_count run.replay.heap.layout
  pub generations : length run.generations ≡ length run.replay.variables
  pub variables : (v : ℕ) → IsSoundVariable run.replay.heap run.times (variable run.replay v) (generation_of run v)

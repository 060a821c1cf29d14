-- The layout of a heap stays, whatever happens.
use Rattle.std.proofs.Common.{◌≡◌, ℕ, Bool, cond, List, [], ◌∷◌, refl, ◌∙◌, Result, Option, arith, fold}
use Rattle.machine_theory.specs.declared.fault.Fault.{Fault}
use Rattle.class_table.specs.Layout.{Partition}
use Rattle.trace_event.specs.declared.event.Event.{Event}
use Rattle.heap_theory.specs.Calls.{Step, given_out, freed, resized, with_payload, moved, malloc_with, malloc_step, calloc_with}
use Rattle.heap_theory.specs.Calls.{calloc_step, free_with, free_step, move_with, realloc_with, realloc_step, store_with, store_step}
use Rattle.heap_theory.specs.{Lookups.{Chunk}, State.{Heap, first_heap}, declared.refusal.FreeError.{FreeError}}
use Rattle.heap_theory.specs.declared.refusal.NullCause.{NullCause}
use Rattle.replay_theory.specs.Replay.{Replay, heap_after, replay_after, first_replay, replay_of}

malloc_layout : (h : Heap) (n : ℕ) (o : Result ℕ NullCause) → (malloc_with h n o).heap.layout ≡ h.layout
unfolding given_out
malloc_layout h n o = grind arith

calloc_layout : (h : Heap) (n : ℕ) (o : Result ℕ NullCause) → (calloc_with h n o).heap.layout ≡ h.layout
unfolding given_out with_payload
calloc_layout h n o = grind arith

free_layout : (h : Heap) (o : Result Chunk FreeError) → (free_with h o).heap.layout ≡ h.layout
unfolding freed
free_layout h o = grind arith

move_layout : (h : Heap) (chunk : Chunk) (n : ℕ) (o : Result ℕ NullCause) → (move_with h chunk n o).heap.layout ≡ h.layout
unfolding given_out with_payload freed moved
move_layout h chunk n o = grind arith

either_layout : {A : Type 0} (layout : Partition) (b : Bool) (x y : Step A) → x.heap.layout ≡ layout → y.heap.layout ≡ layout →
    (cond b x y).heap.layout ≡ layout
either_layout layout b x y left right = grind arith

chunk_layout : (h : Heap) (p n : ℕ) (o : Result Chunk FreeError) → (realloc_with h p n o).heap.layout ≡ h.layout
unfolding resized
chunk_layout h p n o = grind (arith, either_layout, move_layout)

store_layout : (h : Heap) (address : ℕ) (bytes : List ℕ) (o : Option Fault) → (store_with h address bytes o).layout ≡ h.layout
store_layout h address bytes o = grind arith

pub layout_after : (r : Replay) (e : Event) → (heap_after r e).layout ≡ r.heap.layout
unfolding heap_after malloc_step calloc_step free_step realloc_step store_step
layout_after r e = grind (arith, malloc_layout, calloc_layout, either_layout, chunk_layout, free_layout, store_layout)

layout_of_all : (r : Replay) (events : List Event) → (fold replay_after r events).heap.layout ≡ r.heap.layout
unfolding replay_after
layout_of_all r [] = refl
layout_of_all r (e ∷ events) = layout_of_all (replay_after r e) events ∙ layout_after r e

pub layout_of_run : (layout : Partition) (seed quarantine : ℕ) (events : List Event) →
    (replay_of (first_replay layout seed quarantine) events).heap.layout ≡ layout
unfolding replay_of first_replay first_heap
layout_of_run layout seed quarantine events = layout_of_all (first_replay layout seed quarantine) events

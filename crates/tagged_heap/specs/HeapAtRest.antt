-- What a heap is seen as, and what a heap at rest keeps: `IsAtRest`, which is `IsKept` and what else holds between two calls.
use Rattle.std.specs.Prelude.{ℕ, ◌*◌, ◌^◌, ◌<◌, ◌≤◌, List, map}
use Rattle.machine_theory.specs.Memory.{Granule}
use Rattle.class_table.specs.Layout.{Partition}
use Rattle.heap_theory.specs.{Header.{shown_state}, Region.{headers_of}, State.{State, Heap, without_headers}}
use Rattle.tagged_heap.specs.Representation.{Parts, IsKept, AreFirstFresh}

-- A heap's state, and how many chunks were freed.
pub record HeapAndFrees : Type 0 where
  pub state : Heap
  pub frees : ℕ

-- The states that the headers in a memory show, and the heap with them.
unfoldable pub shown_states : Partition → List Granule → List State
shown_states layout memory = map shown_state (headers_of layout memory)

abbrev pub shown_heap : Partition → ℕ → List Granule → ℕ → ℕ → ℕ → Heap
shown_heap layout quarantine memory total seed tag = record {
  layout = layout;
  quarantine = quarantine;
  states = shown_states layout memory;
  memory = without_headers layout memory;
  total = total;
  seed = seed;
  tag = tag;
}

-- What a heap at rest keeps, over its state, frees, parts and counters: `IsKept` (Representation.antt) of the state and the parts. Besides,
-- the quarantine holds no more than its limit, the counters show the fresh slots, and each free added a block to the total.
pub record IsAtRest (heap : Heap) (frees : ℕ) (parts : Parts) (counters : List ℕ) : Type 0 where
  pub kept : IsKept heap parts
  pub rests : parts.quarantine.held ≤ parts.quarantine.limit
  pub fresh : AreFirstFresh heap counters
  pub total : heap.total ≤ 16384 * frees
  pub fits : heap.total < 2 ^ 64

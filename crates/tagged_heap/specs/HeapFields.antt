-- The fields of a heap, what a contract sees of them, and the invariant over them: `IsHeld`, which is `IsAtRest` of what the fields show.
use Rattle.heap_theory.specs.State.{Heap}
use Rattle.tagged_heap.specs.{HeapAtRest.{HeapAndFrees, shown_heap, IsAtRest}, Representation.{Parts}}
use Rattle.tagged_heap.specs.declared.heap.Heap.TheInside.{Inside}

abbrev pub state_of : Inside → Heap
state_of heap =
    shown_heap heap.layout heap.quarantine.limit heap.machine.memory heap.total heap.machine.seed heap.machine.tag

abbrev pub seen : Inside → HeapAndFrees
seen heap = record { state = state_of heap; frees = heap.frees }

abbrev pub parts_of : Inside → Parts
parts_of heap = record { memory = heap.machine.memory; quarantine = heap.quarantine; fronts = heap.lists }

-- The invariant of the type, over its fields: `IsAtRest` (HeapAtRest.antt) of the state that they show, their frees, parts and counters.
abbrev pub IsHeld : Inside → Type 0
IsHeld heap = IsAtRest (state_of heap) heap.frees (parts_of heap) heap.counters.items

-- The heap of a handle.
use Rattle.std.specs.Prelude.{Option, Some, None}
use Rattle.tagged_heap.specs.HeapAtRest.{HeapAndFrees}
use Rattle.mte_c.specs.declared.heap.{handed_heap.HandedHeap.{HandedHeap}, held_heap.HeldHeap.{HeldHeap}}

abbrev pub held_heap : Option HeldHeap → Option HeapAndFrees
held_heap None = None
held_heap (Some held) = Some held.heap

-- It, if there is one.
abbrev pub heap_of : HandedHeap → Option HeapAndFrees
heap_of handed = held_heap handed.handle.held

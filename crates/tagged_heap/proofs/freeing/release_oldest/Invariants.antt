use Rattle.heap_theory.specs.State.{Heap}
use Rattle.tagged_heap.specs.Representation.{IsKept}
use Rattle.tagged_heap.proofs.freeing.release_oldest.Given as goal

-- what was kept at the start is kept
abbrev pub invariant-loop-slot : goal.invariant-loop-slot
invariant-loop-slot l =
    (heap : Heap) → let same = record heap { layout = l.layout } in
    IsKept same (record { memory = l.fn.memory; quarantine = l.fn.quarantine; fronts = l.fn.lists }) →
    IsKept same (record { memory = l.memory; quarantine = l.quarantine; fronts = l.lists })

abbrev pub decreases-loop-slot : goal.decreases-loop-slot
decreases-loop-slot l = l.quarantine.held

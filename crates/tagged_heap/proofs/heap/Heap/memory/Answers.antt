use Rattle.tagged_heap.proofs.Kept.{kept_said}
use Rattle.tagged_heap.proofs.heap.Heap.memory.Goals as goal

pub returns : goal.returns
returns c = rw (c.memory.ensures, ← c.self.view_is) (kept_said c.self.invariant.kept c.self.invariant.rests)

-- As many granules are seen as there are.
use Rattle.heap_theory.proofs.SeenMemory.{length-without_headers}
use Rattle.tagged_heap.proofs.heap.Heap.mapped.Goals as goal

pub returns-clause-test : goal.returns-clause-test
returns-clause-test c = rw (← c.self.view_is, length-without_headers) c.mapped.ensures.test

pub returns-clause-mapped : goal.returns-clause-mapped
returns-clause-mapped c = rw (← c.self.view_is, length-without_headers) c.mapped.ensures.mapped

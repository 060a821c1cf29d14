use Rattle.std.proofs.Common.{◌≡◌, ◌+◌, ◌*◌, ap, ◌∙◌, arith}
use Rattle.heap_theory.specs.{Calls.{freed}}
use Rattle.tagged_heap.{proofs.heap.Heap.free_chunk.Goals.{After-put_at, After-from}, specs.HeapFields.{state_of}}
use Rattle.tagged_heap.proofs.TakingBack.{retire_room, can_be_put, kept_freed, freed_held, freed_shown}
use Rattle.tagged_heap.specs.{HeapAtRest.{shown_heap}, Representation.{IsKept}}
use Rattle.tagged_heap.proofs.heap.Heap.free_chunk.Goals as goal

pub overflow_mul-bytes : goal.overflow_mul-bytes
overflow_mul-bytes c = grind arith

pub retire-requires-clause-room : goal.retire-requires-clause-room
retire-requires-clause-room c =
    let chunk = rw (← c.self.view_is) at c.requires.live in
    retire_room c.self.invariant c.args.chunk.slot c.args.chunk.size c.args.chunk.tag chunk.slot chunk.live

pub retire-requires-clause-size : goal.retire-requires-clause-size
retire-requires-clause-size c = grind arith

pub retire-requires-clause-tag : goal.retire-requires-clause-tag
retire-requires-clause-tag c = grind arith

pub retire-requires-clause-below : goal.retire-requires-clause-below
retire-requires-clause-below c = grind arith

pub retire-requires-clause-start : goal.retire-requires-clause-start
retire-requires-clause-start c = let chunk = rw (← c.self.view_is) at c.requires.live in chunk.start

pub put_at-requires-clause-can : goal.put_at-requires-clause-can
put_at-requires-clause-can c =
    let chunk = rw (← c.self.view_is) at c.requires.live in
    rw c.memory_mut-memory.ensures.value
    (can_be_put c.self.invariant c.args.chunk.slot c.args.chunk.size c.args.chunk.tag chunk.slot chunk.live
    (rw (← c.self.view_is) at c.requires.few) c.retire.new.machine c.retire.ensures.machine c.retire.ensures.memory
    (16 * c.args.chunk.class) (ap (λ n. 16 * n) chunk.class))

pub put_at-requires-clause-start : goal.put_at-requires-clause-start
put_at-requires-clause-start c = let chunk = rw (← c.self.view_is) at c.requires.live in chunk.start

-- the heap in which the chunk was freed is kept, though its quarantine may have too much
put : (c : After-put_at) → IsKept (freed (state_of c.self.inside) c.args.chunk.slot c.args.chunk.size)
    (record { memory = c.put_at.new.memory; quarantine = c.put_at.new.self; fronts = c.self.inside.lists })
put c =
    let chunk = rw (← c.self.view_is) at c.requires.live in
    kept_freed c.self.invariant c.args.chunk.slot c.args.chunk.size c.args.chunk.tag chunk.slot chunk.live
    (rw (← c.self.view_is) at c.requires.few)
    c.retire.new.machine c.retire.ensures.machine c.retire.ensures.memory c.args.chunk.start (16 * c.args.chunk.class)
    (rw c.memory_mut-memory.ensures.value at c.put_at.ensures.queued) c.put_at.ensures.value
    (rw c.memory_mut-memory.ensures.value at c.put_at.ensures.first) (rw c.memory_mut-memory.ensures.value at c.put_at.ensures.after)

pub release_oldest-requires : goal.release_oldest-requires
unfolding freed
release_oldest-requires c = record {
  kept = (freed (state_of c.self.inside) c.args.chunk.slot c.args.chunk.size, put (goal.at.release_oldest-requires c).After-put_at);
}

-- after slots were released, the parts keep it
kept : (c : After-from) → IsKept (freed (state_of c.self.inside) c.args.chunk.slot c.args.chunk.size)
    (record { memory = c.release_oldest.new.memory; quarantine = c.release_oldest.new.quarantine; fronts = c.release_oldest.new.lists })
unfolding freed
kept c =
    c.release_oldest.ensures.kept (freed (state_of c.self.inside) c.args.chunk.slot c.args.chunk.size)
    (put c.before.before.before.before.before.before)

-- and show it
shown : (c : After-from) →
    shown_heap c.self.inside.layout c.release_oldest.new.quarantine.limit c.release_oldest.new.memory (c.self.inside.total + c.from.result)
    c.retire.new.machine.seed c.retire.new.machine.tag
    ≡ freed (state_of c.self.inside) c.args.chunk.slot c.args.chunk.size
unfolding freed
shown c =
    let chunk = rw (← c.self.view_is) at c.requires.live in
    freed_shown c.self.invariant c.args.chunk.slot c.args.chunk.size c.args.chunk.tag chunk.slot chunk.live (kept c) c.retire.new.machine
    c.retire.ensures.machine (c.self.inside.total + c.from.result)
    (ap (λ b. c.self.inside.total + b) (c.from.ensures ∙ ap (λ n. 16 * n) chunk.class))

pub invariant_of-self : goal.invariant_of-self
unfolding freed
invariant_of-self c =
    let chunk = rw (← c.self.view_is) at c.requires.live in
    rw (shown (goal.at.invariant_of-self c).After-from)
    (freed_held c.self.invariant c.args.chunk.slot c.args.chunk.size c.args.chunk.tag chunk.slot chunk.live
    (rw (← c.self.view_is) at c.requires.few) (kept (goal.at.invariant_of-self c).After-from) c.release_oldest.ensures.held)

pub returns : goal.returns
unfolding freed
returns c = rw (← c.self.view_is) (λ k. record { state = shown (goal.at.returns c).After-from k; frees = c.self.inside.frees + 1 })

use Rattle.std.proofs.Common.{◌≡◌}
use Rattle.heap_theory.specs.Calls.{resized}
use Rattle.tagged_heap.proofs.{InPlace.{resized_held, resized_shown}, Kept.{has_room}, heap.Heap.resize.Goals.{After-resize}}
use Rattle.tagged_heap.specs.{HeapAtRest.{shown_heap}, HeapFields.{state_of}}
use Rattle.tagged_heap.proofs.heap.Heap.resize.Goals as goal

pub resize-requires : goal.resize-requires
resize-requires c =
    let chunk = rw (← c.self.view_is) at c.requires.live in
    record {
      room =
          has_room c.self.invariant.kept c.args.chunk.slot c.args.n chunk.slot c.requires.size (rw (← c.self.view_is) at c.requires.room);
      start = chunk.start;
      class = chunk.class;
    }

-- the state that the parts show
shown : (c : After-resize) →
    shown_heap c.self.inside.layout c.self.inside.quarantine.limit c.resize.new.machine.memory c.self.inside.total c.resize.new.machine.seed
    c.resize.new.machine.tag
    ≡ resized (state_of c.self.inside) c.args.chunk.slot c.args.n
shown c =
    let chunk = rw (← c.self.view_is) at c.requires.live in
    resized_shown c.self.invariant c.args.chunk.slot c.args.chunk.size c.args.chunk.tag c.args.n chunk.slot chunk.live
    (rw (← c.self.view_is) at c.requires.room) c.resize.new.machine c.resize.ensures.machine c.resize.ensures.memory

pub invariant_of-self : goal.invariant_of-self
invariant_of-self c =
    let chunk = rw (← c.self.view_is) at c.requires.live in
    rw (shown c)
    (resized_held c.self.invariant c.args.chunk.slot c.args.chunk.size c.args.chunk.tag c.args.n chunk.slot chunk.live
    (rw (← c.self.view_is) at c.requires.room) c.resize.new.machine c.resize.ensures.machine c.resize.ensures.memory)

pub returns : goal.returns
returns c = rw (← c.self.view_is) (λ k. record { state = shown c k; frees = c.self.inside.frees })

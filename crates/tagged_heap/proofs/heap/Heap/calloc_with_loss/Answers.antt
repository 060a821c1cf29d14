-- The slot that is given has room for its chunk, as in every heap, and decides the answer and the new state.
use Rattle.std.proofs.Common.{sym}
use Rattle.tagged_heap.proofs.{CallSteps.{room_given}, Kept.{class_most, size_most}}
use Rattle.tagged_heap.proofs.TheoryLemmas as laws
use Rattle.tagged_heap.proofs.heap.Heap.calloc_with_loss.Goals as goal

pub zero_chunk-requires-clause-size : goal.zero_chunk-requires-clause-size
zero_chunk-requires-clause-size c =
    let given = laws.request _ _ _ c.allocate.ensures.sound (sym c.in_ok-chunk.ensures.slot) in
    size_most _ _ given.room (class_most _ _ c.allocate.ensures.sound given.reusable.in_range)

pub zero_chunk-requires-clause-room : goal.zero_chunk-requires-clause-room
zero_chunk-requires-clause-room c =
    rw c.in_ok-chunk.ensures.given (room_given _ _ _ _ (laws.request _ _ _ c.allocate.ensures.sound (sym c.in_ok-chunk.ensures.slot)).room)

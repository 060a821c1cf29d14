-- The slot that is given is no live one, and has room for as many bytes as both sizes have; so has the chunk's own.
use Rattle.std.proofs.Common.{sym, arith}
use Rattle.heap_theory.specs.{Calls.{moved}}
use Rattle.machine_theory.proofs.ByteLaws.{bytes_under_tags}
use Rattle.tagged_heap.proofs.CallSteps.{payload_given, live_apart, chunk_stays, chunk_written, same_slot}
use Rattle.tagged_heap.proofs.TheoryLemmas as laws
use Rattle.tagged_heap.proofs.heap.Heap.move_chunk.Goals as goal

pub copy_payload-requires-clause-apart : goal.copy_payload-requires-clause-apart
copy_payload-requires-clause-apart c =
    let given = laws.request _ _ _ c.allocate.ensures.sound (sym c.in_ok-given.ensures.slot) in
    live_apart _ _ _ _ _ c.requires.live.live given.reusable

pub copy_payload-requires-clause-source : goal.copy_payload-requires-clause-source
copy_payload-requires-clause-source c = grind (arith, same_slot)

pub copy_payload-requires-clause-target : goal.copy_payload-requires-clause-target
copy_payload-requires-clause-target c =
    let room = (laws.request _ _ _ c.allocate.ensures.sound (sym c.in_ok-given.ensures.slot)).room in
    rw (c.in_ok-given.ensures.given, same_slot) (omega (arith, room, c.min.ensures))

pub free_chunk-requires-clause-live : goal.free_chunk-requires-clause-live
free_chunk-requires-clause-live c =
    let given = laws.request _ _ _ c.allocate.ensures.sound (sym c.in_ok-given.ensures.slot) in
    rw (c.copy_payload.ensures, c.in_ok-given.ensures.given) (chunk_written _ _ _ _ (chunk_stays _ _ _ _ c.requires.live given.reusable))

pub copy_payload-requires-clause-from : goal.copy_payload-requires-clause-from
copy_payload-requires-clause-from c =
    let given = laws.request _ _ _ c.allocate.ensures.sound (sym c.in_ok-given.ensures.slot) in
    rw c.in_ok-given.ensures.given (chunk_stays _ _ _ _ c.requires.live given.reusable)

pub returns-clause-ok : goal.returns-clause-ok
unfolding moved
returns-clause-ok c = grind (arith, payload_given, bytes_under_tags)

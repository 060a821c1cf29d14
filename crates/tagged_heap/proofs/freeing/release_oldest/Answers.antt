use Rattle.std.proofs.Common.{refl, sym, subst}
use Rattle.tagged_heap.{proofs.Kept.{region_is}, proofs.ReleasingOldest.{can_be_listed, release_step}, specs.Representation.{IsKept}}
use Rattle.tagged_heap.proofs.freeing.release_oldest.Goals as goal

pub next_out_at-requires-clause-region : goal.next_out_at-requires-clause-region
next_out_at-requires-clause-region c = region_is (c.loop-slot.invariant c.requires.kept.0 c.requires.kept.1)

pub next_out_at-requires-clause-linked : goal.next_out_at-requires-clause-linked
next_out_at-requires-clause-linked c = let k = c.loop-slot.invariant c.requires.kept.0 c.requires.kept.1 in (k.queue, k.queued)

pub list_released-requires-clause-partition : goal.list_released-requires-clause-partition
list_released-requires-clause-partition c = (c.loop-slot.invariant c.requires.kept.0 c.requires.kept.1).sound.partition

pub list_released-requires-clause-class : goal.list_released-requires-clause-class
list_released-requires-clause-class c = can_be_listed (c.loop-slot.invariant c.requires.kept.0 c.requires.kept.1) c.in-Some.ensures.oldest

pub loop-slot-preserved : goal.loop-slot-preserved
loop-slot-preserved c = λ heap before.
    subst (λ fronts. IsKept (record heap { layout = c.args.layout.now })
    (record { memory = c.list_released.new.memory; quarantine = c.next_out_at.new.self; fronts = fronts })) (sym c.list_released.ensures.front)
    (release_step (c.loop-slot.invariant heap before) c.in-Some.ensures.oldest (c.in-Some.ensures.over.0 refl)
    c.list_released.ensures.header
    c.list_released.ensures.memory)

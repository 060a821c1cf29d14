use Rattle.std.proofs.Common.{ap, subst, sym, ◌∙◌, slice_index}
use Rattle.machine_theory.specs.Address.{moved_by}
use Rattle.heap_theory.specs.HeapTags.{IsTaggedOrUnmapped}
use Rattle.trace_event.specs.Ranges.{IsInRange}
use Rattle.replay_theory.specs.Totals.{request_size}
use Rattle.replay_core.{proofs.Accesses.{near_offset, tagged_or_not_mapped}, specs.TheoryValues.{TellsRequest}}
use Rattle.replay_core.proofs.perform.perform.Goals as goal

pub load-requires-clause-tagged : goal.load-requires-clause-tagged
load-requires-clause-tagged c =
    let range = subst IsInRange c.in-Load.is c.requires.in_range in
    subst (λ a. IsTaggedOrUnmapped c.args.heap.now.state a c.in-Load.len)
    (sym (c.move_address.ensures ∙ ap (moved_by (slice_index c.args.variables.now c.from-in-Load.result)) (near_offset c.in-Load.off range.1)))
    (tagged_or_not_mapped c.args.heap.now.state c.requires.sound _ c.in-Load.off c.in-Load.len range.1 range.2
    (c.requires.variables.tagged c.from-in-Load.result))

pub store-requires-clause-tagged : goal.store-requires-clause-tagged
store-requires-clause-tagged c =
    let range = subst IsInRange c.in-Store.is c.requires.in_range in
    subst (λ a. IsTaggedOrUnmapped c.args.heap.now.state a c.in-Store.len)
    (sym (c.move_address-in-Store.ensures
    ∙ ap (moved_by (slice_index c.args.variables.now c.from-in-Store.result)) (near_offset c.in-Store.off range.0.1)))
    (tagged_or_not_mapped c.args.heap.now.state c.requires.sound _ c.in-Store.off c.in-Store.len range.0.1 range.0.2
    (c.requires.variables.tagged c.from-in-Store.result))

pub returns-in-Free-clause-tells : goal.returns-in-Free-clause-tells
returns-in-Free-clause-tells c =
    let classes = c.args.heap.now.state.layout.classes in
    subst (λ event. TellsRequest classes (request_size event) c.free.result) (sym c.in-Free.is) (c.free.ensures.tells classes)

pub returns-in-Store-clause-tells : goal.returns-in-Store-clause-tells
returns-in-Store-clause-tells c =
    let classes = c.args.heap.now.state.layout.classes in
    subst (λ event. TellsRequest classes (request_size event) c.store.result) (sym c.in-Store.is) (c.store.ensures.tells classes)

use Rattle.std.proofs.Common.{◌≡◌, replicate, sym, ap, ◌∙◌}
use Rattle.machine_theory.specs.Memory.{new_granule}
use Rattle.class_table.specs.Layout.{Partition}
use Rattle.heap_theory.specs.State.{first_heap, without_headers}
use Rattle.tagged_heap.{proofs.NewHeap.{shown_first, held_first}, specs.HeapAtRest.{shown_heap}}
use Rattle.tagged_heap.proofs.heap.Heap.new.Goals as goal

memory_seen : (c : goal.After-new-2) →
    without_headers c.new-layout.result c.write_fresh_headers.new.memory ≡ without_headers c.new-layout.result
    (replicate c.new-layout.result.granules new_granule)
memory_seen c =
    c.write_fresh_headers.ensures.seen
    ∙ ap (without_headers c.new-layout.result)
    (c.in_ok-memory.ensures.granules ∙ ap (λ (layout : Partition). replicate layout.granules new_granule) (sym c.new-layout.ensures))

shown : (c : goal.After-new-2) →
    shown_heap c.new-layout.result c.args.config.quarantine c.write_fresh_headers.new.memory 0 c.args.config.seed 0
    ≡ first_heap c.new-layout.result c.args.config.seed c.args.config.quarantine
shown c =
    shown_first c.new-layout.result c.args.config.seed c.args.config.quarantine c.write_fresh_headers.ensures.partition
    c.write_fresh_headers.new.memory c.write_fresh_headers.ensures.headers (memory_seen c)
    c.write_fresh_headers.ensures.memory

pub invariant_of-result : goal.invariant_of-result
invariant_of-result c =
    rw (c.new-2.ensures, c.new-quarantine.ensures.value, c.new-lists.ensures.fronts, c.first_slots-counters.ensures, shown c)
    (held_first c.new-layout.result c.args.config.seed c.args.config.quarantine c.write_fresh_headers.ensures.partition
    c.write_fresh_headers.new.memory c.write_fresh_headers.ensures.headers (memory_seen c)
    c.write_fresh_headers.ensures.memory)

pub returns-clause-state : goal.returns-clause-state
returns-clause-state c = rw (c.new-2.ensures, c.new-quarantine.ensures.value, ← c.new-layout.ensures) (shown c)

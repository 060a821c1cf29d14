use Rattle.std.proofs.Common.{◌≡◌, ◌+◌, ◌^◌, ◌<◌, sym, ap, subst, ◌∙◌, bit_or}
use Rattle.machine_theory.specs.{Instructions.{drawn_tag}, Machine.{Machine}, Memory.{tagged}}
use Rattle.class_table.specs.{Layout.{slot_of}, Sizes.{chunk_granules}, declared.table.TheConstants.{MOST_CLASSES}}
use Rattle.heap_theory.{proofs.Regions.{header_in-region_of}, specs.Calls.{parity_exclude}, specs.Header.{Header, header_at, with_header}}
use Rattle.heap_theory.specs.Region.{region_of, header_in}
use Rattle.tagged_heap.{proofs.slot_changes.retire.Goals.{After-memory_mut-memory}, specs.Chunks.{retired_header, tag_for}}
use Rattle.tagged_heap.proofs.slot_changes.retire.Goals as goal

-- the draw of a tag changes no byte of the memory
same : (c : After-memory_mut-memory) → c.memory_mut-memory.result.now ≡ c.args.machine.now.memory
same c = c.memory_mut-memory.ensures.value ∙ ap (λ (m : Machine). m.memory) c.draw-other.ensures.register

-- the header that is rewritten
here : (c : After-memory_mut-memory) → header_at c.memory_mut-memory.result.now c.args.start
    ≡ header_in (region_of c.args.layout.now c.args.machine.now.memory) c.args.slot
here c =
    ap (λ memory. header_at memory c.args.start) (same c)
    ∙ ap (header_at c.args.machine.now.memory) c.requires.start
    ∙ sym (header_in-region_of c.args.layout.now c.args.machine.now.memory c.args.slot c.requires.room.slot)

pub set_quarantined-requires-clause-class : goal.set_quarantined-requires-clause-class
set_quarantined-requires-clause-class c =
    subst (λ (h : Header). h.class < MOST_CLASSES) (sym (here (goal.at.set_quarantined-requires-clause-class c).After-memory_mut-memory))
    c.requires.room.header

pub returns-clause-machine : goal.returns-clause-machine
returns-clause-machine c =
    let machine = c.args.machine.now in
    let at = (goal.at.returns-clause-machine c).After-memory_mut-memory in
    let start = c.requires.start in
    let other : c.draw-other.result.0 ≡ tag_for c.args.layout.now machine c.args.slot =
    c.draw-other.ensures.tag
    ∙ ap (λ t. drawn_tag machine.tag machine.seed (bit_or (parity_exclude c.args.slot) (2 ^ t))) c.requires.tag in
    let count = c.chunk_granules.ensures.granules ∙ ap chunk_granules c.requires.size in
    let written : c.set_quarantined.new.memory ≡ with_header machine.memory (slot_of c.args.layout.now c.args.slot).start
    (retired_header (header_in (region_of c.args.layout.now machine.memory) c.args.slot) c.args.mark) =
    c.set_quarantined.ensures.written ∙ (λ i. with_header (same at i) (start i) (retired_header (here at i) c.args.mark)) in
    let register = c.draw-other.ensures.register in
    λ i. record {
      memory = (c.set_tags.ensures.tagged ∙ (λ k. tagged (start k + 1) (count k) (other k) (written k))) i;
      seed = (ap (λ (m : Machine). m.seed) register) i;
      tag = (ap (λ (m : Machine). m.tag) register ∙ other) i;
    }

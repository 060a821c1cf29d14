use Rattle.std.proofs.Common.{sym, ap, ◌∙◌, arith}
use Rattle.class_table.proofs.LawLemmas.{legal_slots_are_in_order}
use Rattle.heap_theory.{proofs.Regions.{header_in-region_of}, specs.Header.{Header}}
use Rattle.chunk_header.proofs.slot_links.unlink.Goals as goal

pub next-link-requires : goal.next-link-requires
next-link-requires c =
    let order = legal_slots_are_in_order 1 c.args.layout.now c.granules-2.ensures.partition.table in
    omega (arith, c.requires.start, c.requires.region, order.inside c.args.slot c.requires.slot, order.wide c.args.slot c.requires.slot)

pub returns-clause-was : goal.returns-clause-was
returns-clause-was c =
    (rw c.requires.start at c.next-link.ensures)
    ∙ sym (ap (λ (x : Header). x.next) (header_in-region_of c.args.layout.now c.args.memory.now c.args.slot c.requires.slot))

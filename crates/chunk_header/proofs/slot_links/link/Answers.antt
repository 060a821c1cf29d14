use Rattle.std.proofs.Common.{sym, ap, ◌∙◌}
use Rattle.heap_theory.{proofs.Regions.{header_in-region_of}, specs.Header.{Header}}
use Rattle.chunk_header.proofs.slot_links.link.Goals as goal

pub returns : goal.returns
returns c =
    (rw c.start.ensures.start at c.next.ensures)
    ∙ sym (ap (λ (x : Header). x.next) (header_in-region_of c.args.layout.now c.args.memory.now c.args.slot c.requires.slot))

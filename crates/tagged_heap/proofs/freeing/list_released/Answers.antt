use Rattle.std.proofs.Common.{arith}
use Rattle.heap_theory.{proofs.Regions.{header_in-region_of}}
use Rattle.heap_theory.specs.Region.{region_of, header_in}
use Rattle.tagged_heap.proofs.RewrittenHeaders.{header_written}
use Rattle.tagged_heap.proofs.TheoryLemmas as laws
use Rattle.tagged_heap.proofs.freeing.list_released.Goals as goal

pub set_freed-requires : goal.set_freed-requires
set_freed-requires c =
    let order = laws.in_order 1 c.args.layout.now c.requires.partition.table in
    omega (arith, c.requires.start, c.requires.region, order.inside c.args.slot c.requires.slot, order.wide c.args.slot c.requires.slot)

-- the first word is written once, as that of a freed slot, with the old front as its link
pub returns-clause-header : goal.returns-clause-header
returns-clause-header c =
    let layout = c.args.layout.now in
    let old = c.args.memory.now in
    let class = (header_in (region_of layout old) c.args.slot).class in
    let first =
    header_written layout old c.set_freed.new.memory c.args.slot 8 _ c.requires.partition c.requires.memory c.requires.slot
    (rw c.requires.start at c.set_freed.ensures) in
    grind (arith, header_in-region_of)

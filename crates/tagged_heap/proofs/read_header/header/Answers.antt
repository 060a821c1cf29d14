use Rattle.std.proofs.Common.{arith}
use Rattle.heap_theory.proofs.Regions.{header_in-region_of}
use Rattle.tagged_heap.proofs.TheoryLemmas as laws
use Rattle.tagged_heap.proofs.read_header.header.Goals as goal

pub read-requires-clause-granule : goal.read-requires-clause-granule
read-requires-clause-granule c =
    let order = laws.in_order 1 c.args.layout.now c.granules.ensures.partition.table in
    omega (arith, c.requires.start, c.requires.region, order.inside c.args._slot c.requires.slot, order.wide c.args._slot c.requires.slot)

pub read-requires-clause-class : goal.read-requires-clause-class
read-requires-clause-class c = grind (arith, header_in-region_of)

pub returns-clause-header : goal.returns-clause-header
returns-clause-header c = grind (arith, header_in-region_of)

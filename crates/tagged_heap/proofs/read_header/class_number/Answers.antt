use Rattle.std.proofs.Common.{arith}
use Rattle.heap_theory.{proofs.Regions.{header_in-region_of}}
use Rattle.tagged_heap.proofs.TheoryLemmas as laws
use Rattle.tagged_heap.proofs.read_header.class_number.Goals as goal

pub class_in-requires-clause-granule : goal.class_in-requires-clause-granule
class_in-requires-clause-granule c =
    let order = laws.in_order 1 c.args.layout.now c.granules.ensures.partition.table in
    omega (arith, c.requires.start, c.requires.region, order.inside c.args._slot c.requires.slot, order.wide c.args._slot c.requires.slot)

pub class_in-requires-clause-class : goal.class_in-requires-clause-class
class_in-requires-clause-class c = grind (arith, header_in-region_of)

pub returns : goal.returns
returns c = grind (arith, header_in-region_of)

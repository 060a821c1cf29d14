-- What the header of the slot over a granule says decides what the granule is.
use Rattle.std.proofs.Common.{◌≡◌, ◌≢◌, ◌≤◌, sym, ap, ◌∙◌, arith}
use Rattle.chunk_header.specs.HeaderView.{standing_seen}
use Rattle.heap_theory.specs.{GranuleKinds.{place_kind}, Header.{Header}, Region.{region_of, header_in}, State.{IsSlot}}
use Rattle.class_table.specs.Sizes.{chunk_granules}
use Rattle.tagged_heap.proofs.GranuleKinds.{kind_outside, in_range, start_kind, size_few, tail_kind, chunk_granule_kind, kind_by}
use Rattle.tagged_heap.proofs.{Kept.{region_is}, heap.Heap.place_kind.Goals.{In-Some, After-chunk_granules}}
use Rattle.tagged_heap.specs.HeapFields.{state_of}
use Rattle.tagged_heap.proofs.heap.Heap.place_kind.Goals as goal

-- says how many granules the slot's chunk has,
chunk_is : (c : After-chunk_granules) →
    c.chunk_granules.result ≡ chunk_granules (header_in (region_of c.self.inside.layout c.self.inside.machine.memory) c.in-Some.slot).size
chunk_is c = grind arith

-- and what a granule of the chunk is
kind : (c : After-chunk_granules) → c.in-Some.before ≢ 0 → c.in-Some.before ≤ c.chunk_granules.result →
    kind_by (standing_seen c.header-header.result.state) ≡ place_kind (state_of c.self.inside) c.args.granule
kind c other within =
    ap (λ (x : Header). kind_by x.standing) (rw c.memory-memory.ensures at c.header-header.ensures.header)
    ∙ chunk_granule_kind c.self.invariant.kept c.in-Some.before c.in-Some.ensures.some c.in-Some.ensures.place
    other (rw (chunk_is c) at within)

pub returns-in_default : goal.returns-in_default
returns-in_default c = rw (← c.self.view_is) (kind_outside (state_of c.self.inside) c.args.granule c.in_default.ensures.none)

pub returns-then-before-eq0 : goal.returns-then-before-eq0
returns-then-before-eq0 c =
    rw (← c.self.view_is)
    (start_kind c.self.invariant.kept c.in-Some.before c.in-Some.ensures.some c.in-Some.ensures.place c.if-before-eq0.true)

-- the slot is one of the heap's
inside : (c : In-Some) → IsSlot (state_of c.self.inside) c.in-Some.slot
inside c = in_range c.self.invariant.kept c.in-Some.before c.in-Some.ensures.some c.in-Some.ensures.place

pub header-header-requires-clause-slot : goal.header-header-requires-clause-slot
header-header-requires-clause-slot c = inside (goal.at.header-header-requires-clause-slot c).In-Some

pub header-header-requires-clause-region : goal.header-header-requires-clause-region
header-header-requires-clause-region c = rw c.memory-memory.ensures (region_is c.self.invariant.kept)

pub header-header-requires-clause-class : goal.header-header-requires-clause-class
header-header-requires-clause-class c = grind (arith, inside)

pub chunk_granules-requires : goal.chunk_granules-requires
chunk_granules-requires c =
    let few = size_few c.self.invariant.kept c.in-Some.before c.in-Some.ensures.some c.in-Some.ensures.place in
    grind arith

pub returns-then-before-chunk_granules : goal.returns-then-before-chunk_granules
returns-then-before-chunk_granules c =
    rw (← c.self.view_is)
    (tail_kind c.self.invariant.kept c.in-Some.before c.in-Some.ensures.some c.in-Some.ensures.place
    c.if-before-eq0.false
    (rw (chunk_is (goal.at.returns-then-before-chunk_granules c).After-chunk_granules) at c.if-before-chunk_granules.true))

pub returns-in-Fresh : goal.returns-in-Fresh
returns-in-Fresh c =
    rw (← c.self.view_is)
    (ap (λ state. kind_by (standing_seen state)) (sym c.in-Fresh.is)
    ∙ kind (goal.at.returns-in-Fresh c).After-chunk_granules c.if-before-eq0.false c.if-before-chunk_granules.false)

pub returns-in-Live : goal.returns-in-Live
returns-in-Live c =
    rw (← c.self.view_is)
    (ap (λ state. kind_by (standing_seen state)) (sym c.in-Live.is)
    ∙ kind (goal.at.returns-in-Live c).After-chunk_granules c.if-before-eq0.false c.if-before-chunk_granules.false)

pub returns-in-Quarantined : goal.returns-in-Quarantined
returns-in-Quarantined c =
    let dead = kind (goal.at.returns-in-Quarantined c).After-chunk_granules c.if-before-eq0.false c.if-before-chunk_granules.false in
    grind arith

use Rattle.std.{proofs.Common.{◌≡◌, Some, sym, ◌∙◌, ℕ, ap}, specs.Option.{option_map}}
use Rattle.chunk_header.specs.HeaderView.{seen}
use Rattle.class_table.specs.Layout.{slot_over}
use Rattle.heap_theory.specs.{Header.{header_for, Header, code_of}, Region.{next_in, region_of}, State.{Heap, IsSlot, slot_in}}
use Rattle.tagged_heap.proofs.{Kept.{class_few, kept_said, region_is}, heap.Heap.slot_facts.Goals.{In_ok-number}}
use Rattle.tagged_heap.specs.{HeapFields.{state_of}, Representation.{Parts, IsKept}, Slots.{facts_of}, declared.slots.SlotFacts.{SlotFacts}}
use Rattle.tagged_heap.proofs.heap.Heap.slot_facts.Goals as goal
use Rattle.tagged_heap.proofs.TheoryLemmas as laws

-- What is told of a slot is what its header says.
is_slot : {h : Heap} {p : Parts} (k : IsKept h p) (g s : ℕ) → slot_over h.layout g ≡ Some s → IsSlot h s
is_slot {h} k g s there = ((laws.covers 1 h.layout g s k.sound.partition.table).0 there).0

module _ (h : Heap) (g s next : ℕ) (x : Header) (start granules : ℕ) (there : slot_over h.layout g ≡ Some s) (shown : x ≡ header_for h s next)
    (from : start ≡ (slot_in h s).start) (wide : granules ≡ (slot_in h s).class) where
  abbrev facts : SlotFacts
  facts = record { number = s; start = start; granules = granules; state = code_of x.standing; size = x.size; tag = x.tag }

  same : facts ≡ facts_of h s
  unfolding header_for
  same = λ i. record {
    number = s;
    start = from i;
    granules = wide i;
    state = code_of (shown i).standing;
    size = (shown i).size;
    tag = (shown i).tag;
  }

  told : Some (record { number = s; start = start; granules = granules; state = code_of x.standing; size = x.size; tag = x.tag })
      ≡ option_map (facts_of h) (slot_over h.layout g)
  told = ap Some same ∙ sym (ap (option_map (facts_of h)) there)

there : (c : In_ok-number) → slot_over c.self.inside.layout c.args.granule ≡ Some c.in_ok-number.number
there c = sym c.slot_at.ensures ∙ c.in_ok-number.was

pub slot-slot-requires : goal.slot-slot-requires
slot-slot-requires c = is_slot c.self.invariant.kept c.args.granule c.in_ok-number.number (there (goal.at.slot-slot-requires c).In_ok-number)

pub header-header-requires-clause-region : goal.header-header-requires-clause-region
header-header-requires-clause-region c = rw c.memory.ensures (region_is c.self.invariant.kept)

pub header-header-requires-clause-class : goal.header-header-requires-clause-class
header-header-requires-clause-class c =
    let inside = is_slot c.self.invariant.kept c.args.granule c.in_ok-number.number (there (goal.at.header-header-requires-clause-class c).In_ok-number) in
    rw (c.memory.ensures, c.self.invariant.kept.headers.headers c.in_ok-number.number inside)
    (class_few (state_of c.self.inside) c.in_ok-number.number c.self.invariant.kept.sound inside)

pub returns : goal.returns
returns c =
    let there = there (goal.at.returns c).In_ok-number in
    let inside = is_slot c.self.invariant.kept c.args.granule c.in_ok-number.number there in
    let shown : seen c.header-header.result ≡ header_for (state_of c.self.inside) c.in_ok-number.number
    (next_in (region_of c.self.inside.layout c.self.inside.machine.memory) c.in_ok-number.number) =
    (rw c.memory.ensures at c.header-header.ensures.header)
    ∙ (kept_said c.self.invariant.kept c.self.invariant.rests).headers c.in_ok-number.number inside in
    rw (← c.self.view_is, c.state_number.ensures, c.from.ensures, c.from-2.ensures)
    (told (state_of c.self.inside) c.args.granule c.in_ok-number.number _ (seen c.header-header.result) _ _ there shown
    c.slot-slot.ensures.start c.slot-slot.ensures.class)

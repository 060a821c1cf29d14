use Rattle.std.proofs.Common.{◌≡◌, ℕ, ◌+◌, ◌*◌, ◌-◌, ◌<◌, ◌≤◌, ap, ◌∙◌, arith, slice_index}
use Rattle.std.proofs.lemmas.{Option.{slice_get-get_or}}
use Rattle.class_table.{proofs.LawLemmas.{slot_by_its_class}, specs.Layout.{IsClassOf, first_slot, share_of, slot_of}}
use Rattle.heap_theory.specs.{Header.{Header, class_number}, Header.Standing.{Fresh as NeverGiven}, Region.{region_of, header_in}}
use Rattle.heap_theory.specs.State.State.{Fresh}
use Rattle.tagged_heap.proofs.{NewHeap.{class_is_number}, RewrittenHeaders.{header_written}, Shares.{in_share}}
use Rattle.tagged_heap.specs.Representation.{header_from}
use Rattle.tagged_heap.proofs.fresh_slots.write_class_headers.Goals as goal

abbrev fresh_header : ℕ → Header
fresh_header class = record { standing = NeverGiven; size = 0; tag = 0; class = class; next = 0; mark = 0 }

pub loop-slot-init : goal.loop-slot-init
loop-slot-init c = grind (arith, slot_by_its_class)

pub loop-slot-preserved : goal.loop-slot-preserved
loop-slot-preserved c =
    let layout = c.args.layout.now in
    let number = c.args.number in
    let slot = c.loop-slot.slot in
    let first = c.first_slot-first.result in
    let from : first_slot layout number ≤ slot = omega (arith, c.first_slot-first.ensures.first, c.loop-slot.invariant.from) in
    let to : slot < first_slot layout (number + 1) = omega (arith, c.loop-slot-test.true, c.first_slot-end.ensures.first) in
    let own = in_share layout number slot c.requires.number from to in
    let is : IsClassOf layout slot number = record { within = c.requires.number; from = from; to = to } in
    let begins : c.loop-slot.next ≡ (slot_of layout slot).start =
    grind (arith, slot_by_its_class) in
    let wide : c.slot_of_class-start.result.class ≡ slice_index layout.classes number =
    grind (arith, in_share) in
    let class : number ≡ class_number layout slot =
    grind (arith, class_is_number, slice_get-get_or) in
    let written =
    header_written layout c.loop-slot.memory c.write.new.memory slot 16 (fresh_header number) c.requires.partition
    c.loop-slot.invariant.memory own.0 (rw begins at c.write.ensures) in
    let here : header_in (region_of layout c.write.new.memory) slot ≡ header_from layout 0 slot Fresh 0 =
    written.own ∙ ap fresh_header class in
    record {
      from = omega (arith, c.loop-slot.invariant.from);
      start = one_more (share_of layout * number) (slice_index layout.classes number) _ _ slot first c.loop-slot.invariant.from
          c.loop-slot.invariant.start wide;
      headers = grind arith;
      seen = written.seen_is ∙ c.loop-slot.invariant.seen;
      memory = c.write.ensures.memory;
      long = c.write.ensures.others.len ∙ c.loop-slot.invariant.long;
    }
  where
    one_more : (base class at wide slot first : ℕ) → first ≤ slot → at ≡ base + class * (slot - first) → wide ≡ class →
        at + wide ≡ base + class * (slot + 1 - first)
    one_more base class at wide slot first le is same =
        let more : slot + 1 - first ≡ 1 + (slot - first) = omega arith in
        rw more (grind arith)

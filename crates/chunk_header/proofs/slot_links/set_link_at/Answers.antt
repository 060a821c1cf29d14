use Rattle.std.proofs.Common.{arith, ◌≡◌, ℕ, ◌<◌, List, length, sym, ap, ◌∙◌}
use Rattle.class_table.{proofs.LawLemmas.{legal_slots_are_in_order}, specs.Layout.{Partition, IsPartition, slot_count, slot_of}}
use Rattle.machine_theory.specs.Memory.{Granule, IsMemory}
use Rattle.heap_theory.{proofs.Regions.{header_in-region_of, region_of-read}, specs.Header.{Header, header_at}}
use Rattle.heap_theory.specs.Region.{region_of, with_slot_header}
use Rattle.chunk_header.specs.{HeaderWrite.{WritesHeader}, Links.{SetsLink}}
use Rattle.chunk_header.proofs.slot_links.set_link_at.Goals as goal

-- What a link that is set in a slot's header makes of the region.
link_set : (layout : Partition) (old new : List Granule) (s next : ℕ) → IsPartition layout → IsMemory old →
    length old ≡ layout.granules → s < slot_count layout →
    WritesHeader old new (slot_of layout s).start 8 (record (header_at old (slot_of layout s).start) { next = next }) →
    SetsLink layout old new s next
link_set layout old new s next is memory_is long within w = record {
  region =
      region_of-read layout is old new s (record (header_at old (slot_of layout s).start) { next = next }) memory_is within w.written w.read
      ∙ ap (λ (x : Header). with_slot_header (region_of layout old) s (record x { next = next }))
      (sym (header_in-region_of layout old s within));
  others = w.others;
  long = w.others.len ∙ long;
  memory = w.memory;
}

pub set_next-requires : goal.set_next-requires
set_next-requires c =
    let order = legal_slots_are_in_order 1 c.args.layout.now c.granules-2.ensures.partition.table in
    omega (arith, c.requires.start, c.requires.region, order.inside c.args.slot c.requires.slot, order.wide c.args.slot c.requires.slot)

pub returns : goal.returns
returns c =
    link_set c.args.layout.now c.args.memory.now c.set_next.new.memory c.args.slot c.args.link c.granules-2.ensures.partition
    c.granules.ensures.memory c.requires.region c.requires.slot (rw (← c.requires.start) c.set_next.ensures)

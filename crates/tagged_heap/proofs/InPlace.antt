-- The chunk of a live slot is resized in place.
use Rattle.std.proofs.Common.{arith, ◌≡◌, ℕ, ◌<◌, List, refl, sym, ap}
use Rattle.machine_theory.specs.{Machine.{Machine}, Memory.{IsMemory}}
use Rattle.heap_theory.specs.{Calls.{chunk_tagged, resized}, Header.{Header, with_header}, Region.{region_of, header_in}}
use Rattle.heap_theory.specs.{State.{Heap, slot_in, state_at, is_fresh, last_tag, IsSlot}, State.State.{Live}}
use Rattle.class_table.specs.Sizes.{chunk_granules}
use Rattle.tagged_heap.proofs.{Changed.{counters_changed, kept_alive, alive_memory}, Kept.{within_states, agree_at_rest, shown_is}}
use Rattle.tagged_heap.specs.{HeapAtRest.{shown_heap, IsAtRest}, Representation.{header_from, Parts}}
use Rattle.tagged_heap.proofs.TheoryLemmas as laws

module _ {h : Heap} {frees : ℕ} {p : Parts} {counters : List ℕ} (held : IsAtRest h frees p counters) (s size tag n : ℕ)
    (in_range : IsSlot h s) (live : state_at h s ≡ Live size tag)
    (room : chunk_granules n < (slot_in h s).class) where
  header_is : record (header_in (region_of h.layout p.memory) s) { size = n }
      ≡ header_from h.layout held.kept.from s (Live n (last_tag (state_at h s))) 0
  header_is = grind arith

  -- what resizing makes of the machine
  abbrev pub IsResizedBy : Machine → Type 0
  IsResizedBy machine =
      machine ≡ record {
        memory = chunk_tagged (slot_in h s) n (header_in (region_of h.layout p.memory) s).tag
            (with_header p.memory (slot_in h s).start (record (header_in (region_of h.layout p.memory) s) { size = n }));
        seed = h.seed;
        tag = h.tag;
      }

  module _ (machine : Machine) (is : IsResizedBy machine) (memory : IsMemory machine.memory) where
    pub resized_held : IsAtRest (resized h s n) frees (record p { memory = machine.memory }) counters
    unfolding resized
    resized_held =
        let k = held.kept in
        let sound = laws.resized_sound h s n size tag k.sound in_range live room in
        let last = last_tag (state_at h s) in
        record {
          kept =
              kept_alive k s n last h.seed h.tag in_range held.fits sound k.listed
              (laws.resized_out h k.queue k.lists s n size tag k.sound (agree_at_rest k held.rests) in_range live)
              (alive_memory k s n last h.seed h.tag in_range held.fits sound
              (record { own = refl; others = λ r inside other. refl; seen_is = k.seen }) k.memory_is header_is
              (ap (λ (x : Header). x.tag) (k.headers.headers s in_range)) (ap (λ (x : Machine). x.memory) is)) memory;
          rests = held.rests;
          fresh = counters_changed h s (Live n last) _ _ _ _ (within_states k s in_range) (sym (ap is_fresh live)) held.fresh;
          total = held.total;
          fits = held.fits;
        }

    pub resized_shown : shown_heap h.layout p.quarantine.limit machine.memory h.total machine.seed machine.tag ≡ resized h s n
    unfolding resized
    resized_shown =
        shown_is resized_held.kept h.total machine.seed machine.tag refl (ap (λ (x : Machine). x.seed) is) (ap (λ (x : Machine). x.tag) is)

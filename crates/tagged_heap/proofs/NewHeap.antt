-- A new heap is kept by fresh headers, with no slot in a list.
use Rattle.std.proofs.Common.{◌≡◌, ℕ, ◌<◌, List, [], length, map, replicate, refl, sym, ◌∙◌, arith, Some, slice_get}
use Rattle.std.{proofs.lemmas.List.{length-replicate}, specs.List.{range_with_len}}
use Rattle.std.proofs.lemmas.List.FromFn.{length-map-range_with_len, get_or-map-range_with_len}
use Rattle.machine_theory.specs.Memory.{Granule, IsMemory, new_granule}
use Rattle.class_table.{proofs.LawLemmas.{first_slots_ascend}, specs.Layout.{Partition, IsPartition, slot_of, slot_count, first_slot}}
use Rattle.class_table.specs.Tables.{IsLegalTable}
use Rattle.heap_theory.proofs.{FirstHeap.{get_or-replicate_any}, ListSearch.{Contains-none}, Marks.{one_number, number_is}}
use Rattle.heap_theory.specs.{Header.{class_number}, Region.{region_of, header_in}}
use Rattle.heap_theory.specs.{State.{state_at, first_heap, without_headers}, State.State.{Fresh}}
use Rattle.tagged_heap.{proofs.Kept.{shown_is}, proofs.Shares.{share_of_slot}, specs.HeapAtRest.{shown_heap, IsAtRest}}
use Rattle.tagged_heap.specs.Representation.{header_from, Parts}
use Rattle.tagged_heap.proofs.TheoryLemmas as laws

-- the number of a slot's class is one
pub class_is_number : (layout : Partition) (s number : ℕ) → IsLegalTable 1 layout.classes → s < slot_count layout →
    slice_get layout.classes number ≡ Some (slot_of layout s).class → number ≡ class_number layout s
class_is_number layout s number legal within listed =
    let found = number_is layout.classes number (slot_of layout s).class listed in
    let own = number_is layout.classes (class_number layout s) (slot_of layout s).class (laws.class_number_is layout s within) in
    one_number 1 layout.classes number (class_number layout s) legal found.within own.within (found.is ∙ sym own.is)

-- ---- the first heap

module _ (layout : Partition) (seed quarantine : ℕ) (is : IsPartition layout) where
  abbrev pub counters : List ℕ
  counters = map (first_slot layout) (range_with_len 0 (length layout.classes))

  counters_long : length counters ≡ length layout.classes
  counters_long = length-map-range_with_len (first_slot layout) 0 (length layout.classes)

  state_fresh : (s : ℕ) → state_at (first_heap layout seed quarantine) s ≡ Fresh
  unfolding first_heap
  state_fresh s = get_or-replicate_any (slot_count layout) s Fresh

  module _ (m : List Granule)
      (headers : (s : ℕ) → s < slot_count layout → header_in (region_of layout m) s ≡ header_from layout 0 s Fresh 0)
      (seen : without_headers layout m ≡ without_headers layout (replicate layout.granules new_granule)) (memory : IsMemory m) where
    -- what a new heap is made of
    abbrev pub first_parts : Parts
    first_parts =
        record {
          memory = m;
          quarantine = record { front = 0; back = 0; back_start = 0; held = 0; limit = quarantine };
          fronts = replicate
              (length layout.classes) 0;
        }

    pub held_first : IsAtRest (first_heap layout seed quarantine) 0 first_parts counters
    unfolding first_heap
    held_first =
        let agree = laws.agree_first layout seed quarantine in
        record {
          kept = record {
            from = agree.from;
            queue = [];
            lists = replicate (length layout.classes) [];
            sound = laws.first_sound layout seed quarantine is;
            memory_is = memory;
            seen = seen ∙ laws.new_seen layout;
            headers = grind (arith, state_fresh);
            queued = grind (arith, Contains-none);
            listed = grind (arith, length-replicate, replicate, get_or-replicate_any);
            agree = agree.agree;
            limit = refl;
          };
          rests = omega arith;
          fresh = grind (arith, counters_long, get_or-map-range_with_len, first_slots_ascend, share_of_slot, state_fresh);
          total = omega arith;
          fits = omega arith;
        }

    pub shown_first : shown_heap layout quarantine m 0 seed 0 ≡ first_heap layout seed quarantine
    unfolding first_heap
    shown_first = shown_is held_first.kept 0 seed 0 refl refl refl

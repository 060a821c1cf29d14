-- Traces over 64 granules with seed 1, worked out: their answers and totals.
use Rattle.std.proofs.Common.{◌≡◌, [], ◌∷◌, ◌++◌, refl, pos, negsuc, replicate}
use Rattle.trace_event.specs.declared.event.Event.TheVariants.{Malloc, Calloc, Free, Load, Store, Addg, Subg}
use Rattle.heap_theory.specs.declared.place_kind.PlaceKind.TheVariants.{Slack, Header, Tail, Dead, Other}
use Rattle.heap_theory.specs.declared.refusal.FreeError.TheVariants.{Misplaced, NotLive, WrongTag}
use Rattle.heap_theory.specs.declared.refusal.NullCause.TheVariants.{Large, NoClass, Exhausted}
use Rattle.replay_theory.{proofs.ExampleAnswers.{shown}, specs.Replay.Answer.{Silent, Loaded, NotMapped, TagFault, NoPointer, NotFreed}}
use Rattle.replay_theory.specs.Totals.{no_totals}

empty_table_serves_nothing : shown [] 0 (Malloc 1 16 ∷ []) ≡ (
  NoPointer NoClass ∷ [],
  record no_totals { events = 1; requests = 1; null_no_class = 1 },
)
unfolding shown
empty_table_serves_nothing = refl

header_neighbour_and_dead_chunk_fault :
    shown (2 ∷ 4 ∷ []) 64 (Malloc 1 16 ∷ Store 1 (pos 16) 1 0xaa ∷ Malloc 2 0 ∷ Load 1 (pos 32) 1 ∷ Free 1 ∷ Load 1 (pos 0) 1 ∷ [])
    ≡ (
      Silent ∷ TagFault 2 0 1 Header ∷ Silent ∷ TagFault 3 2 1 Other ∷ Silent ∷ TagFault 1 3 1 Dead ∷ [],
      record no_totals { events = 6; requests = 2; faults_tag = 3; loss = 16 },
    )
unfolding shown
header_neighbour_and_dead_chunk_fault = refl

one_class_for_both_sizes :
    shown (2 ∷ []) 64 (Malloc 1 16 ∷ Store 1 (pos 16) 1 0xaa ∷ Malloc 2 0 ∷ Load 1 (pos 32) 1 ∷ Free 1 ∷ Load 1 (pos 0) 1 ∷ [])
    ≡ (
      Silent ∷ TagFault 2 0 1 Header ∷ Silent ∷ TagFault 3 2 1 Other ∷ Silent ∷ TagFault 1 3 1 Dead ∷ [],
      record no_totals { events = 6; requests = 2; faults_tag = 3; loss = 16 },
    )
unfolding shown
one_class_for_both_sizes = refl

larger_class_has_a_tail :
    shown (4 ∷ []) 64 (Malloc 1 16 ∷ Store 1 (pos 16) 1 0xaa ∷ Malloc 2 0 ∷ Load 1 (pos 32) 1 ∷ Free 1 ∷ Load 1 (pos 0) 1 ∷ [])
    ≡ (
      Silent ∷ TagFault 2 0 1 Tail ∷ Silent ∷ TagFault 3 0 1 Tail ∷ Silent ∷ TagFault 1 3 1 Dead ∷ [],
      record no_totals { events = 6; requests = 2; faults_tag = 3; loss = 80 },
    )
unfolding shown
larger_class_has_a_tail = refl

quarantine_releases_past_its_limit :
    shown (2 ∷ []) 64 (Malloc 1 16 ∷ Malloc 2 16 ∷ Malloc 3 16 ∷ Free 1 ∷ Free 2 ∷ Malloc 4 16 ∷ Free 3 ∷ Malloc 5 16 ∷ Load 1 (pos 0)
    1 ∷ [])
    ≡ (replicate 8 Silent ++ TagFault 1 3 1 Other ∷ [], record no_totals { events = 9; requests = 5; faults_tag = 1 })
unfolding shown
quarantine_releases_past_its_limit = refl

refused_frees_draw_no_tag :
    shown (2 ∷ []) 64
    (Malloc 1 16 ∷ Malloc 2 16 ∷ Malloc 3 16 ∷ Free 1 ∷ Free 2 ∷ Malloc 4 16 ∷ Free 3 ∷ Malloc 5 16 ∷ Load 1 (pos 0) 1 ∷ Free 1 ∷ Free
    2 ∷ Addg 6 5 1 0 ∷ Free 6 ∷ Free 7
    ∷ Load 5 (pos 0) 4 ∷ Malloc 8 16 ∷ Load 8 (pos 16) 1 ∷ [])
    ≡ (
      replicate 8 Silent ++ TagFault 1 3 1 Other ∷ NotFreed WrongTag ∷ NotFreed NotLive ∷ Silent ∷ NotFreed Misplaced ∷ Silent ∷ Loaded
          (replicate 4 0) ∷ Silent ∷ TagFault 10 0 9 Header ∷ [],
      record no_totals { events = 17; requests = 6; faults_tag = 2; refused_frees = 3 },
    )
unfolding shown
refused_frees_draw_no_tag = refl

three_ways_to_get_null :
    shown (64 ∷ []) 0
    (Malloc 1 100 ∷ Malloc 2 1 ∷ Malloc 3 1009 ∷ Malloc 4 16369 ∷ Load 1 (pos 96) 16 ∷ Load 1 (pos 104) 16 ∷ Load 2 (pos 0) 1 ∷ Load 1
    (negsuc 15) 1 ∷ Load 1 (negsuc 16) 1 ∷ Load 1 (pos 1008) 1 ∷ [])
    ≡ (
      Silent ∷ NoPointer Exhausted ∷ NoPointer NoClass ∷ NoPointer Large ∷ Loaded (replicate 16 0) ∷ TagFault 8 0 1
          Tail ∷ NotMapped ∷ TagFault 0 0 1 Header ∷ NotMapped ∷ NotMapped ∷ [],
      record no_totals {
        events = 10;
        requests = 4;
        null_large = 1;
        null_no_class = 1;
        null_exhausted = 1;
        faults_tag = 2;
        faults_unmapped = 3;
        loss = 908;
      },
    )
unfolding shown
three_ways_to_get_null = refl

lowest_granule_is_reported :
    shown (2 ∷ []) 0 (Malloc 1 16 ∷ Load 1 (pos 8) 16 ∷ Load 1 (pos 16) 32 ∷ [])
    ≡ (Silent ∷ TagFault 2 0 1 Header ∷ TagFault 2 0 1 Header ∷ [], record no_totals { events = 3; requests = 1; faults_tag = 2 })
unfolding shown
lowest_granule_is_reported = refl

shorter_chunk_leaves_a_tail :
    shown (3 ∷ []) 0 (Malloc 1 1 ∷ Load 1 (pos 992) 1 ∷ Load 1 (pos 48) 1 ∷ Malloc 2 32 ∷ Free 2 ∷ Malloc 2 16 ∷ Load 2 (pos 16) 1 ∷ [])
    ≡ (
      Silent ∷ TagFault 63 0 1 Slack ∷ TagFault 4 0 1 Tail ∷ Silent ∷ Silent ∷ Silent ∷ TagFault 5 0 6 Tail ∷ [],
      record no_totals { events = 7; requests = 3; faults_tag = 3; loss = 47 },
    )
unfolding shown
shorter_chunk_leaves_a_tail = refl

malloc_keeps_bytes_and_calloc_zeroes :
    shown (2 ∷ []) 0 (Malloc 1 16 ∷ Store 1 (pos 0) 4 0x5a ∷ Load 1 (pos 2) 4 ∷ Free 1 ∷ Malloc 1 16 ∷ Load 1 (pos 0) 4 ∷ Free 1 ∷ Calloc 1
    3 ∷ Load 1 (pos 0) 16 ∷ [])
    ≡ (
      Silent ∷ Silent ∷ Loaded (0x5a ∷ 0x5a ∷ 0 ∷ 0 ∷ []) ∷ Silent ∷ Silent ∷ Loaded (replicate 4 0x5a) ∷ Silent ∷ Silent ∷ Loaded
          (replicate 16 0) ∷ [],
      record no_totals { events = 9; requests = 3; loss = 13 },
    )
unfolding shown
malloc_keeps_bytes_and_calloc_zeroes = refl

addg_and_subg_reach_the_neighbour :
    shown (2 ∷ []) 0 (Malloc 1 16 ∷ Malloc 2 16 ∷ Store 2 (pos 0) 2 0xc3 ∷ Addg 3 1 2 1 ∷ Load 3 (pos 0) 3 ∷ Subg 3 3 2 14 ∷ Load 3 (pos 0)
    1 ∷ [])
    ≡ (
      Silent ∷ Silent ∷ Silent ∷ Silent ∷ Loaded (0xc3 ∷ 0xc3 ∷ 0 ∷ []) ∷ Silent ∷ Loaded (0 ∷ []) ∷ [],
      record no_totals { events = 7; requests = 2 },
    )
unfolding shown
addg_and_subg_reach_the_neighbour = refl

-- the last load succeeds, since the tag has come again: the next generation was freed too
freed_pointer_faults_until_the_next_free :
    shown (2 ∷ []) 0 (Malloc 1 16 ∷ Free 1 ∷ Malloc 2 16 ∷ Load 1 (pos 0) 1 ∷ Free 1 ∷ Store 1 (negsuc 15) 8 0xff ∷ Free 2 ∷ Load 1 (pos 0)
    1 ∷ [])
    ≡ (
      Silent ∷ Silent ∷ Silent ∷ TagFault 1 5 1 Other ∷ NotFreed WrongTag ∷ TagFault 0 0 1 Header ∷ Silent ∷ Loaded (0 ∷ []) ∷ [],
      record no_totals { events = 8; requests = 2; faults_tag = 2; refused_frees = 1 },
    )
unfolding shown
freed_pointer_faults_until_the_next_free = refl

chunk_freed_by_a_made_pointer_is_dead :
    shown (2 ∷ []) 64
    (Malloc 1 16 ∷ Malloc 2 16 ∷ Addg 3 1 2 1 ∷ Free 3 ∷ Load 3 (pos 0) 1 ∷ Subg 4 1 4 0 ∷ Load 4 (pos 0) 1 ∷ Addg 5 1 1 0 ∷ Store 5 (pos 0)
    16 0xee ∷ Load 2 (pos 0) 16 ∷ Free 2 ∷ [])
    ≡ (
      Silent ∷ Silent ∷ Silent ∷ Silent ∷ TagFault 3 6 2 Dead ∷ Silent ∷ NotMapped ∷ Silent ∷ TagFault 2 0 1 Header ∷ TagFault 3 6 2
          Dead ∷ NotFreed NotLive ∷ [],
      record no_totals { events = 11; requests = 2; faults_tag = 3; faults_unmapped = 1; refused_frees = 1 },
    )
unfolding shown
chunk_freed_by_a_made_pointer_is_dead = refl

freed_last_is_given_first :
    shown (2 ∷ []) 0 (Malloc 1 16 ∷ Malloc 2 16 ∷ Free 1 ∷ Free 2 ∷ Malloc 3 16 ∷ Load 1 (pos 0) 1 ∷ Load 2 (pos 0) 1 ∷ [])
    ≡ (replicate 5 Silent ++ TagFault 1 3 1 Dead ∷ TagFault 3 4 2 Other ∷ [], record no_totals { events = 7; requests = 3; faults_tag = 2 })
unfolding shown
freed_last_is_given_first = refl

store_over_a_header_writes_nothing :
    shown (2 ∷ []) 0 (Malloc 1 16 ∷ Store 1 (pos 8) 16 0xee ∷ Load 1 (pos 0) 16 ∷ [])
    ≡ (Silent ∷ TagFault 2 0 1 Header ∷ Loaded (replicate 16 0) ∷ [], record no_totals { events = 3; requests = 1; faults_tag = 1 })
unfolding shown
store_over_a_header_writes_nothing = refl

dead_slot_is_reported_before_a_wrong_tag :
    shown (2 ∷ []) 0 (Malloc 1 16 ∷ Addg 2 1 0 1 ∷ Free 1 ∷ Free 2 ∷ [])
    ≡ (Silent ∷ Silent ∷ Silent ∷ NotFreed NotLive ∷ [], record no_totals { events = 4; requests = 1; refused_frees = 1 })
unfolding shown
dead_slot_is_reported_before_a_wrong_tag = refl

calloc_zeroes_its_granules_alone :
    shown (3 ∷ []) 0 (Malloc 1 32 ∷ Store 1 (pos 0) 32 0xee ∷ Free 1 ∷ Calloc 2 1 ∷ Free 2 ∷ Malloc 3 32 ∷ Load 3 (pos 0) 32 ∷ [])
    ≡ (
      Silent ∷ Silent ∷ Silent ∷ Silent ∷ Silent ∷ Silent ∷ Loaded (replicate 16 0 ++ replicate 16 0xee) ∷ [],
      record no_totals { events = 7; requests = 3; loss = 31 },
    )
unfolding shown
calloc_zeroes_its_granules_alone = refl

-- Traces with `realloc` over 64 granules with seed 1, and the headers of a trace, worked out.
use Rattle.std.proofs.Common.{◌≡◌, List, [], ◌∷◌, ◌++◌, refl, pos, replicate}
use Rattle.trace_event.specs.declared.event.{Event.{Event}, Event.TheVariants.{Malloc, Realloc, Free, Load, Store, Addg}}
use Rattle.heap_theory.specs.{Header.{first_word, header_for}, Header.Standing.{Quarantined, Freed}}
use Rattle.heap_theory.specs.declared.{place_kind.PlaceKind.TheVariants.{Tail, Dead as DeadChunk}, refusal.FreeError.TheVariants.{NotLive}}
use Rattle.heap_theory.specs.declared.refusal.NullCause.TheVariants.{NoClass, Exhausted}
use Rattle.replay_theory.{proofs.ExampleAnswers.{shown, heap_of}, specs.Replay.Answer.{Silent, Loaded, TagFault, NoPointer, NotFreed}}
use Rattle.replay_theory.specs.Totals.{no_totals}
use Rattle.class_table.specs.Layout.{slots_of_classes, slots_of}

in_place_moved_and_moved_back :
    shown (3 ∷ 5 ∷ []) 0
    (Malloc 1 5 ∷ Store 1 (pos 0) 4 0xab ∷ Load 1 (pos 16) 1 ∷ Realloc 1 32 ∷ Load 1 (pos 16) 1 ∷ Addg 2 1 0 0 ∷ Realloc 1 33 ∷ Load 1
    (pos 0) 6 ∷ Load 2 (pos 0) 1 ∷ Realloc 2 8
    ∷ Realloc 1 65 ∷ Load 1 (pos 32) 1 ∷ Realloc 1 3 ∷ Load 1 (pos 0) 4 ∷ Realloc 3 16 ∷ Load 3 (pos 0) 1 ∷ [])
    ≡ (
      Silent ∷ Silent ∷ TagFault 2 0 1 Tail ∷ Silent ∷ Loaded (0 ∷ []) ∷ Silent ∷ Silent ∷ Loaded
          (replicate 4 0xab ++ replicate 2 0) ∷ TagFault 1 3 1 DeadChunk ∷ NotFreed NotLive
          ∷ NoPointer NoClass ∷ Loaded (0 ∷ []) ∷ Silent ∷ Loaded (replicate 4 0xab) ∷ Silent ∷ Loaded (0 ∷ []) ∷ [],
      record no_totals { events = 16; requests = 7; null_no_class = 1; faults_tag = 2; refused_frees = 1; loss = 103 },
    )
unfolding shown
in_place_moved_and_moved_back = refl

shrunk_chunk_leaves_a_tail : shown (3 ∷ []) 0 (Malloc 1 32 ∷ Realloc 1 16 ∷ Load 1 (pos 16) 1 ∷ [])
    ≡ (Silent ∷ Silent ∷ TagFault 2 0 1 Tail ∷ [], record no_totals { events = 3; requests = 2; faults_tag = 1; loss = 16 })
unfolding shown
shrunk_chunk_leaves_a_tail = refl

refused_chunk_stays_live :
    shown (2 ∷ 31 ∷ []) 0 (Malloc 1 16 ∷ Malloc 2 480 ∷ Realloc 1 100 ∷ Load 1 (pos 0) 1 ∷ Free 1 ∷ [])
    ≡ (
      Silent ∷ Silent ∷ NoPointer Exhausted ∷ Loaded (0 ∷ []) ∷ Silent ∷ [],
      record no_totals { events = 5; requests = 3; null_exhausted = 1 },
    )
unfolding shown
refused_chunk_stays_live = refl

smaller_size_is_copied :
    shown (2 ∷ 5 ∷ []) 0 (Malloc 1 64 ∷ Store 1 (pos 0) 64 0xee ∷ Free 1 ∷ Malloc 2 3 ∷ Store 2 (pos 0) 16 0xab ∷ Realloc 2 40 ∷ Load 2
    (pos 0) 48 ∷ [])
    ≡ (replicate 6 Silent ++ Loaded (replicate 3 0xab ++ replicate 45 0xee) ∷ [], record no_totals { events = 7; requests = 3; loss = 37 })
unfolding shown
smaller_size_is_copied = refl

pointer_is_judged_before_the_size :
    shown (2 ∷ []) 0 (Malloc 1 16 ∷ Free 1 ∷ Realloc 1 16369 ∷ []) ≡ (
      Silent ∷ Silent ∷ NotFreed NotLive ∷ [],
      record no_totals { events = 3; requests = 2; refused_frees = 1 },
    )
unfolding shown
pointer_is_judged_before_the_size = refl

-- ---- headers

-- the first word of the header of slot 0 while its chunk of 16 bytes is live, once it is in the quarantine, and where nothing is held back
words_of_a_life : (first_word (header_for (heap_of (2 ∷ 4 ∷ []) 64 (Malloc 1 16 ∷ [])) 0 0) ≡ 65601)
    × (first_word (header_for (heap_of (2 ∷ 4 ∷ []) 64 (Malloc 1 16 ∷ Free 1 ∷ [])) 0 0) ≡ 65602)
    × (first_word (header_for (heap_of (2 ∷ 4 ∷ []) 0 (Malloc 1 16 ∷ Free 1 ∷ [])) 0 0) ≡ 65603)
unfolding heap_of header_for slots_of slots_of_classes
words_of_a_life = (refl, refl, refl)

-- three blocks of 32 bytes were freed, and the quarantine holds 64 bytes
abbrev three_frees : List Event
three_frees = Malloc 1 16 ∷ Malloc 2 16 ∷ Malloc 3 16 ∷ Free 1 ∷ Free 2 ∷ Malloc 4 16 ∷ Free 3 ∷ []

first_freed_is_released : (header_for (heap_of (2 ∷ []) 64 three_frees) 0 0
    ≡ record { standing = Freed; size = 16; tag = 1; class = 0; next = 0; mark = 0 })
    × (header_for (heap_of (2 ∷ []) 64 three_frees) 1 3
    ≡ record { standing = Quarantined; size = 16; tag = 2; class = 0; next = 3; mark = 32 })
    × (header_for (heap_of (2 ∷ []) 64 three_frees) 2 0
    ≡ record { standing = Quarantined; size = 16; tag = 1; class = 0; next = 0; mark = 64 })
    × ((heap_of (2 ∷ []) 64 three_frees).total ≡ 96)
unfolding heap_of header_for slots_of slots_of_classes
first_freed_is_released = (refl, refl, refl, refl)

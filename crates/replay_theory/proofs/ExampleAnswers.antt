-- What a trace over 64 granules with seed 1 answers, worked out.
use Rattle.std.specs.Prelude.{ℕ, List, zip}
use Rattle.machine_theory.specs.{Access.{access_fault}, Instructions.{drawn_tag, addg, subg}, Seed.{next_offset, next_seed}}
use Rattle.machine_theory.specs.{Memory.{each_granule, tagged, bytes_at, written}, Tags.{choose_tag, allowed_after}}
use Rattle.class_table.specs.Layout.{slots_of_classes, slots_of, slot_over}
use Rattle.trace_event.specs.declared.event.Event.{Event}
use Rattle.heap_theory.specs.Calls.{given_out, freed, resized, with_payload, moved, malloc_step, calloc_step, free_step, realloc_step}
use Rattle.heap_theory.specs.{Calls.{store_step}, GranuleKinds.{place_kind}, Lookups.{slot_for, slot_for_request, chunk_at}}
use Rattle.heap_theory.specs.State.{Heap, first_memory, first_heap}
use Rattle.replay_theory.specs.Replay.{Answer, heap_after, variables_after, replay_after, answer_of, first_replay, answers, replay_of}
use Rattle.replay_theory.specs.Totals.{Totals, totals_of}

-- the answers
unfoldable pub answers_of : List ℕ → ℕ → List Event → List Answer
unfolding answers first_replay first_heap first_memory slots_of slots_of_classes slot_over answer_of replay_after heap_after variables_after
    store_step malloc_step calloc_step free_step realloc_step moved chunk_at slot_for_request with_payload resized freed given_out slot_for
    place_kind choose_tag allowed_after drawn_tag next_offset next_seed addg subg each_granule tagged bytes_at written access_fault
answers_of classes quarantine events = answers (first_replay (record { classes = classes; granules = 64 }) 1 quarantine) events

abbrev pub totals_from : List ℕ → List Event → List Answer → List Answer × Totals
totals_from classes events given = (given, totals_of classes (zip events given))

-- the answers, and the totals
unfoldable pub shown : List ℕ → ℕ → List Event → List Answer × Totals
unfolding answers_of totals_of
shown classes quarantine events = totals_from classes events (answers_of classes quarantine events)

-- the heap that the events leave
unfoldable pub heap_of : List ℕ → ℕ → List Event → Heap
unfolding replay_of first_replay first_heap first_memory slots_of slots_of_classes slot_over replay_after heap_after variables_after
    store_step malloc_step calloc_step free_step realloc_step moved chunk_at slot_for_request with_payload resized freed given_out slot_for
    choose_tag allowed_after drawn_tag next_offset next_seed addg subg each_granule tagged bytes_at written access_fault
heap_of classes quarantine events = (replay_of (first_replay (record { classes = classes; granules = 64 }) 1 quarantine) events).heap

-- What the proofs of this crate cite of the theory below it.
-- every change keeps a heap sound
pub use Rattle.heap_theory.proofs.FirstHeap.{IsSoundHeap-first as first_sound}
pub use Rattle.heap_theory.proofs.HeapKept.{IsSoundHeap-given_out as given_out_sound, IsSoundHeap-freed as freed_sound, IsSoundHeap-resized as resized_sound, IsSoundHeap-written as written_sound}
-- what is chosen
pub use Rattle.heap_theory.proofs.Lookups.{slot_for_request-is as request, chunk_at-is as chunk}
pub use Rattle.heap_theory.proofs.Pointers.{slot_of_pointer-iff as pointer, lowest_fresh-first as first_fresh, lowest_fresh-none as none_fresh}
pub use Rattle.heap_theory.proofs.Front.{front_is_given as front_given, lowest_fresh_is_given as fresh_given}
-- queue and lists
pub use Rattle.heap_theory.proofs.QueueAndLists.{agree_first, agree_taken as front_taken, agree_fresh as fresh_taken, agree_resized as resized_out, agree_over as memory_without_marks, agree_freed as queues}
pub use Rattle.heap_theory.proofs.Releasing.{release as releases}
pub use Rattle.heap_theory.proofs.Held.{holds_quarantined as queue_holds, holds_released as lists_hold, one_list_has, queue_or_list as queue_apart}
-- headers
pub use Rattle.heap_theory.proofs.HeaderWords.{class_number-is as class_number_is, class_number-few as class_number_few, header_for-fits as header_fits}
pub use Rattle.heap_theory.proofs.Linked.{IsLinked-same as links_stay, IsLinked-ends as last_ends, IsLinked-one as one_list, IsLinked-once as each_once}
-- what is seen of a memory
pub use Rattle.heap_theory.proofs.SeenMemory.{without_headers-new as new_seen, access_fault-without_headers as accesses_seen, byte_at-without_headers as byte_seen}
pub use Rattle.heap_theory.proofs.SeenMemory.{headers_spared as spared}
-- memory
pub use Rattle.machine_theory.proofs.ChangedMemories.{IsMemory-written as memory_written}
-- sizes and layouts
pub use Rattle.class_table.proofs.LawLemmas.{legal_slots_are_in_order as in_order, slots_have_at_most_1024_granules as classes_small, slots_of_classes_are_all as all_slots, one_slot_covers as covers, number_gives_class as class_by_number}

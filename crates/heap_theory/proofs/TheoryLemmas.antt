-- What the proofs of this crate cite of the machine's memory and of class tables.
pub use Rattle.machine_theory.proofs.AccessLaws.{touch_faults as other_tag_faults, access_fault_same as by_tags}
pub use Rattle.machine_theory.proofs.ByteLaws.{other_bytes, bytes_under_tags, word_at-written as word_read}
pub use Rattle.machine_theory.proofs.ChangeLaws.{each_granule_either as either_order, written-append as in_parts}
pub use Rattle.machine_theory.proofs.ChangedMemories.{IsMemory-written as memory_written}
pub use Rattle.machine_theory.proofs.MemoryLaws.{written_tag, other_tag, tag_under_bytes, length-each_granule as each_length, granule_at-each_granule as each_at, length-tagged as tagged_length, length-written as written_length}
pub use Rattle.machine_theory.proofs.TagLaws.{odd_drawn, even_drawn}
pub use Rattle.class_table.proofs.LawLemmas.{legal_slots_are_in_order as in_order, slots_have_classes as classes_listed, slots_have_at_most_1024_granules as classes_small, one_slot_covers}

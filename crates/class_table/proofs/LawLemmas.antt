-- What the proofs of the crates above cite of slots, of classes, and of lines of a name and numbers.
pub use Rattle.class_table.proofs.ClassOf.{each_slot_has_a_class, slot_by_its_class, slots_of_classes_are_slots}
pub use Rattle.class_table.proofs.Covering.{one_slot_covers}
pub use Rattle.class_table.proofs.FirstFaults.{first_fault_is_refused, missing_line_is_first_fault}
pub use Rattle.class_table.proofs.FirstSlots.{first_slots_ascend}
pub use Rattle.class_table.proofs.LeastClass.{first_is_least, number_gives_class}
pub use Rattle.class_table.proofs.Legal.{AreClassesAbove, class_above, classes_of_legal_table, legal_table_of_classes, no_classes_are_legal}
pub use Rattle.class_table.proofs.NamedLines.{AreSmall, IsName, line_of_read_numbers, named_line_is_full, named_line_is_line, named_numbers_are_read, plain_name, words_of_named_line}
pub use Rattle.class_table.proofs.Slots.{legal_slots_are_in_order, slots_have_at_most_1024_granules, slots_have_classes, slots_of_classes_are_all}
pub use Rattle.class_table.proofs.Spelled.{class_line_is_full, legal_is_faultless, read_line_is_spelled, table_line_is_read}

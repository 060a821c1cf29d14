-- What the proofs of the crates above cite of histories, their lines and their texts.
pub use Rattle.history_count.proofs.CutLines.{few-lines, sum-lines}
pub use Rattle.history_count.proofs.FirstFaults.{first_fault_is_refused, lines_before_it_spell, refused_line_is_there}
pub use Rattle.history_count.proofs.ReadIsSpelled.{history_is_spelled}
pub use Rattle.history_count.proofs.SpreadLines.{column-few}
pub use Rattle.history_count.proofs.SpelledIsRead.{spelled_history_is_read}

-- What the proofs of the crates above cite of timelines and their texts.
pub use Rattle.history_count.proofs.TimelineLemmas.FirstFaults.{first_fault_is_refused, refused_line_is_there}
pub use Rattle.history_count.proofs.TimelineLemmas.LineByLine.{spelled_timeline_is_read, timeline_is_spelled}
pub use Rattle.history_count.proofs.TimelineLemmas.Pieces.{head_is_in_front, nothing_is_read, whole_ended}

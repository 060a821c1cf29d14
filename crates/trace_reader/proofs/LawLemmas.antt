-- What the proofs of the crates above cite.
pub use Rattle.trace_reader.proofs.Feeding.{fed_after_events, finished_after_events, pieces_are_joined}
pub use Rattle.trace_reader.proofs.LineRanges.{events_are_few}
pub use Rattle.trace_reader.proofs.Pieces.{one_piece_is_the_text, pieces_have_few_events}

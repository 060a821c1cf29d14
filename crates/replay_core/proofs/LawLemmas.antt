-- What the proofs of the crates above cite.
pub use Rattle.replay_core.proofs.StoredMore.{lines_of_none, lines_of_one_more, report_is_lines_and_totals, stored_of_none, stored_of_one_more}

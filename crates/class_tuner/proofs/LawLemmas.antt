-- What the proofs of the crates above cite: there is one tuned sheet, one fit, and one thing that is found over a timeline.
pub use Rattle.class_tuner.proofs.OneSheet.{one_fit, one_sheet}
pub use Rattle.class_tuner.proofs.FitLemmas.TimelineLemmas.OneRound.{least-or_between, one-between, one-least}

-- What the proofs of this crate cite of the theory below it.
pub use Rattle.replay_theory.proofs.Answered.{stored_part, answers-push as one_answer_more, length-answers as as_many_answers, report_lines-push as one_line_more}
pub use Rattle.replay_theory.proofs.Answered.{totals_of-none as no_totals_first, totals_of-push as totals_one_more, replay_of-push as one_step_more}
pub use Rattle.replay_theory.proofs.Hardened.{null_or_tagged}
pub use Rattle.replay_theory.proofs.RunKept.{IsRunWith-run as run_is_sound}
pub use Rattle.machine_theory.proofs.AddressLaws.{moved_tag, moved_null}
pub use Rattle.machine_theory.proofs.AccessLaws.{mapped_test as mapped}

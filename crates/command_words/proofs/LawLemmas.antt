-- What the proofs of the program cite of words.
pub use Rattle.command_words.proofs.Calls.{same_command}
pub use Rattle.command_words.proofs.GivenOptions.{are_taken, one_given}

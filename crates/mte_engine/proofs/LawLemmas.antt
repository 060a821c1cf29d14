-- What the proofs of the crates above cite of the engines.
pub use Rattle.mte_engine.proofs.KnownInput.{answers_all}

-- What the proofs of the crates above cite of the texts of sheets and fits.
pub use Rattle.potential_check.proofs.ReadIsSpelled.{read_is_spelled}
pub use Rattle.potential_check.proofs.SettledLines.{leading_lines-cut, leading_lines-lines, leading_lines-one_more, leading_lines-settled}

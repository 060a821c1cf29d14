-- What the proofs of the crates above cite: of the number of spans, and of the bounds of blocks of ends.
pub use Rattle.potential_check.proofs.FootprintLemmas.AlikeRows.{alike-at_end, alike-more}
pub use Rattle.potential_check.proofs.FootprintLemmas.Bounds.{bounds-same, bounds-set, row-others, row-same, row_bounds-next, row_bounds-same, row_bounds-set, slack-narrowed}
pub use Rattle.potential_check.proofs.FootprintLemmas.CallCounts.{spans_of_places}

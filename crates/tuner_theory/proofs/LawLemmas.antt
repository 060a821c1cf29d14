-- What the proofs of the crates above cite of places, spans, least rows and sheets.
pub use Rattle.tuner_theory.proofs.Canonical.{one_canonical, rows-canonical}
pub use Rattle.tuner_theory.proofs.Growing.{span_footprints_grow, spans_grow}
pub use Rattle.tuner_theory.proofs.LeastRows.{ends_are_later, ends_ascend, least_rows_are_valid, one_least_rows, rows-same}
pub use Rattle.tuner_theory.proofs.Needs.{few_places, place_is_class, places_ascend}
pub use Rattle.tuner_theory.proofs.Rests.{tuned_rows_are_rests}
pub use Rattle.tuner_theory.proofs.Rounding.{rounding_is_least, step-positive}
pub use Rattle.tuner_theory.proofs.Sheets.{optimal-best_by, optimal_is_best, rows-optimal_by}
pub use Rattle.tuner_theory.proofs.Spans.{HasNoUnderflow, places_cross, spans_fit, sums_ascend, sums_fit, sums_give_waste}
pub use Rattle.tuner_theory.proofs.Tables.{waste-sum}

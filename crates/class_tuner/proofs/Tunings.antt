-- What least rows over the places of a profile make, by any measure.
use Rattle.std.proofs.Common.{◌≡◌, ℕ, ◌≤◌, Bool, List, refl, sym, arith}
use Rattle.class_table.specs.{Steps.{IsStep}, Tables.{IsLegalTable}, declared.table.TheConstants.{MOST_CLASSES}}
use Rattle.class_tuner.specs.{Fits.Fitted.{IsFitOf}, Tuned.{IsMadeFor, IsTunedOver, sheet_of_rows}}
use Rattle.tuner_theory.{proofs.FootprintRests.{fitted_rows_are_rests}, specs.Best.{IsCanonicalBy}, specs.Histories.{AreSnapshots}}
use Rattle.tuner_theory.proofs.LawLemmas.{tuned_rows_are_rests, ends_are_later, least_rows_are_valid, rows-canonical, rows-optimal_by}
use Rattle.tuner_theory.{proofs.LawLemmas.{step-positive}, specs.Intervals.{span_cost}, specs.Profiles.{AreCounts}, specs.Sheets.{Sheet}}
use Rattle.tuner_theory.specs.{Measures.{AreSums, Measure, footprint_on, waste_on}, Rows.{AreLaterEnds, IsFilled, number_at}}
use Rattle.tuner_theory.specs.{Spans.{places, span_waste}, Tuned.{AreRowsBy, tuned_table}}

-- a table that is legal for any step is legal for step 1
legal-for_one : (step : ℕ) (classes : List ℕ) → IsLegalTable step classes → IsLegalTable 1 classes
legal-for_one step classes legal = grind arith

module _ (m : Measure) (sums : AreSums m) (step limit : ℕ) (forced : Bool) (rows ends : List (List ℕ)) (is_step : IsStep step) (are_counts : AreCounts m.counts)
    (some : 1 ≤ limit) (few : limit ≤ MOST_CLASSES)
    (filled : IsFilled (span_cost (m.between step) m.counts step) (places m.counts step) limit rows ends) where
  least-rows : AreRowsBy (m.between step) m.counts step limit (number_at rows) (number_at ends)
  least-rows = record { is_step = is_step; are_counts = are_counts; some = some; few = few; least = filled.least }

  made : IsCanonicalBy m.cost m.counts step limit (tuned_table m.counts step limit (number_at ends))
      × (m.cost (tuned_table m.counts step limit (number_at ends)) ≡ number_at rows limit 0)
  made = rows-canonical _ _ m.counts step limit (number_at rows) (number_at ends) (sums step (step-positive step is_step)) least-rows

  pub read-later : AreLaterEnds (places m.counts step) limit (number_at ends)
  read-later = ends_are_later _ _ limit _ _ filled.least

  pub read-legal : IsLegalTable 1 (tuned_table m.counts step limit (number_at ends))
  read-legal = legal-for_one step (tuned_table m.counts step limit (number_at ends)) made.0.best.candidate.legal

  pub read-made : IsMadeFor m step limit forced (sheet_of_rows m.counts step limit forced rows ends)
  read-made =
      rw (sym made.1) (record {
        canonical = made.0;
        for_limit = refl;
        for_step = refl;
        for_forced = refl;
        costs = refl;
        shape = filled.rows_shape;
        ends = number_at ends;
        least = least-rows;
        optimal = rows-optimal_by m step limit forced rows (number_at ends) (sums step (step-positive step is_step)) least-rows
            filled.rows_shape;
      })

-- Where the measure is the waste, the rows are the least rests;
pub made-tuned : (counts : List ℕ) (step limit : ℕ) (forced : Bool) (sheet : Sheet) → IsMadeFor (waste_on counts) step limit forced sheet
    → IsTunedOver counts step limit forced sheet
made-tuned counts step limit forced sheet made = record {
  made = made;
  rests = λ k i one le lt. tuned_rows_are_rests counts step limit (number_at sheet.rows) made.ends made.least k i one le lt;
  valid = least_rows_are_valid (span_waste counts step) (places counts step) limit (number_at sheet.rows) made.ends made.least.least;
}

-- and so where it is the footprint.
pub made-fit : (forced : Bool) (snapshots : List (List ℕ)) (step limit : ℕ) (fit : Sheet) → AreSnapshots snapshots
    → IsMadeFor (footprint_on forced snapshots) step limit forced fit → IsFitOf snapshots step limit forced fit
made-fit forced snapshots step limit fit are made = record {
  made = made;
  rests = fitted_rows_are_rests forced snapshots step limit (number_at fit.rows) made.ends are made.least;
}

-- The result of a tuner.
use Rattle.std.specs.Prelude.{◌≡◌, ℕ, ◌<◌, ◌≤◌, Bool, List}
use Rattle.class_tuner.specs.CallCounts.{calls_of}
use Rattle.potential_check.specs.declared.certificates.certificate.Certificate.{Certificate}
use Rattle.tuner_theory.specs.{Best.{IsCanonicalBy}, Measures.{Measure, waste_on}, Potentials.{AreValidPotentials}, Rests.{IsRest}}
use Rattle.tuner_theory.specs.{Rows.{HasShape, IsFilled, number_at}, Served.{served}, Sheets.{IsVerdictOn, Sheet}}
use Rattle.tuner_theory.specs.{Spans.{places, span_waste}, Tuned.{AreRowsBy, tuned_table}, declared.verdict.Verdict.TheVariants.{Optimal}}

-- A certificate, and how many costs of spans were asked for to make it.
pub record Making (C : Type 0) : Type 0 where
  pub sheet : Certificate C
  pub evaluations : ℕ

-- What filled rows give.
abbrev pub sheet_of_rows : List ℕ → ℕ → ℕ → Bool → List (List ℕ) → List (List ℕ) → Sheet
sheet_of_rows counts step limit forced rows ends = record {
  table = tuned_table counts step limit (number_at ends);
  limit = limit;
  step = step;
  forced = forced;
  cost = number_at rows limit 0;
  rows = rows;
}

-- The certificate that is made for a measure, a step and a limit: the canonical table with what it costs, and least rows. It says whether the
-- largest class is forced.
pub record IsMadeFor (m : Measure) (step limit : ℕ) (forced : Bool) (sheet : Sheet) : Type 0 where
  pub canonical : IsCanonicalBy m.cost m.counts step limit sheet.table
  pub for_limit : sheet.limit ≡ limit
  pub for_step : sheet.step ≡ step
  pub for_forced : sheet.forced ≡ forced
  pub costs : sheet.cost ≡ m.cost sheet.table
  pub shape : HasShape sheet.rows limit (places m.counts step)
  pub ends : ℕ → ℕ → ℕ
  pub least : AreRowsBy (m.between step) m.counts step limit (number_at sheet.rows) ends
  pub optimal : IsVerdictOn m sheet Optimal

-- Each number of the rows is the least rest of its row and place.
abbrev pub AreRests : List ℕ → ℕ → ℕ → List (List ℕ) → Type 0
AreRests counts step limit rows = (k i : ℕ) → 1 ≤ k → k ≤ limit → i < places counts step → IsRest counts step k i (number_at rows k i)

-- The sheet that is tuned for counts that have to be served, a step and a limit. Its rows are the least rests, and valid potentials.
pub record IsTunedOver (counts : List ℕ) (step limit : ℕ) (forced : Bool) (sheet : Sheet) : Type 0 where
  pub made : IsMadeFor (waste_on counts) step limit forced sheet
  pub rests : AreRests counts step limit sheet.rows
  pub valid : AreValidPotentials (span_waste counts step) (places counts step) limit (number_at sheet.rows)

-- The same for the counts of a profile, where the largest size has to be served too if the largest class is forced.
abbrev pub IsTuned : List ℕ → ℕ → ℕ → Bool → Sheet → Type 0
IsTuned counts step limit forced sheet = IsTunedOver (served forced counts) step limit forced sheet

-- How many span wastes a source is asked for to fill these rows. The rows' own least ends determine it.
pub record AreEvaluations (counts : List ℕ) (step limit : ℕ) (rows : List (List ℕ)) (evaluations : ℕ) : Type 0 where
  pub ends : List (List ℕ)
  pub filled : IsFilled (span_waste counts step) (places counts step) limit rows ends
  pub asked : evaluations ≡ calls_of (number_at ends) (places counts step) limit

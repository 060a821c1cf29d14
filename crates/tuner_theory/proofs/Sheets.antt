-- What meets all conditions has a best table, and the table of least rows meets them.
use Rattle.std.proofs.{Common.{◌≡◌, ℕ, ◌<◌, Bool, List, arith, refl, sym}, lemmas.Bool.{cases_lt}, lemmas.List.{get_or_past}}
use Rattle.class_table.specs.Tables.{IsLegalTable}
use Rattle.tuner_theory.proofs.{Bound.{potentials_bound_costs}, Canonical.{rows-canonical}, LeastRows.{least_rows_are_valid}}
use Rattle.tuner_theory.{proofs.Rounding.{step-positive}, proofs.Tables.{waste-sum}, specs.Best.{IsBest, IsBestBy, IsCanonicalBy}}
use Rattle.tuner_theory.specs.{Intervals.{IsSumOfIntervals, span_cost}, Measures.{AreSums, Measure, waste_on}, Rows.{HasShape, number_at}}
use Rattle.tuner_theory.specs.{Potentials.{AreValidPotentials}, Served.{served}, Sheets.{IsVerdict, MeetsOn, Sheet}, Spans.{places}}
use Rattle.tuner_theory.specs.{Tuned.{AreRowsBy, tuned_table}, declared.verdict.Refusal.{Refusal}}
use Rattle.tuner_theory.specs.declared.verdict.Refusal.TheVariants.{OffStep, OverLimit, NotServing, WasteWrong, Shape, LastClass, StageDrop}
use Rattle.tuner_theory.specs.declared.verdict.{Refusal.TheVariants.{Edge, NotTight}, Verdict.TheVariants.{Optimal}}

-- past the rows' ends
pub rows-end : (rows : List (List ℕ)) (limit d : ℕ) → HasShape rows limit d → (k : ℕ) → number_at rows k d ≡ 0
rows-end rows limit d shape k = grind (arith, cases_lt, get_or_past)

-- By any measure whose costs are sums of the intervals of the classes: what meets all conditions has a best table,
pub optimal-best_by : (m : Measure) (sheet : Sheet) → AreSums m → IsLegalTable 1 sheet.table
    → ((refusal : Refusal) → MeetsOn m sheet refusal) → IsBestBy m.cost m.counts sheet.step sheet.limit sheet.table
optimal-best_by m sheet sums legal meets = record {
  candidate = record {
    legal = record { few = legal.few; in_range = legal.in_range; ascending = legal.ascending; fitting = (meets OffStep).1 };
    few = meets OverLimit;
    serving = meets NotServing;
  };
  least = λ other candidate. omega (
    arith,
    meets WasteWrong,
    meets NotTight,
    potentials_bound_costs m.cost (m.between sheet.step) m.counts sheet.step sheet.limit (number_at sheet.rows) other pos (sums sheet.step pos)
        valid candidate,
  );
}
  where
    pos : 0 < sheet.step
    pos = step-positive sheet.step (meets OffStep).0

    valid : AreValidPotentials (span_cost (m.between sheet.step) m.counts sheet.step) (places m.counts sheet.step) sheet.limit
        (number_at sheet.rows)
    valid = record {
      last_class = λ one. meets LastClass;
      stage_drop = meets StageDrop;
      edge = meets Edge;
      at_end = rows-end sheet.rows sheet.limit (places m.counts sheet.step) (meets Shape);
    }

-- so a sheet that meets them has one, whoever wrote it;
pub optimal_is_best : (counts : List ℕ) (sheet : Sheet) → IsLegalTable 1 sheet.table → IsVerdict counts sheet Optimal
    → IsBest (served sheet.forced counts) sheet.step sheet.limit sheet.table
optimal_is_best counts sheet legal meets =
    let its = served sheet.forced counts in optimal-best_by (waste_on its) sheet (waste-sum its) legal meets

-- and the table of least rows meets them.
pub rows-optimal_by : (m : Measure) (step limit : ℕ) (forced : Bool) (rows : List (List ℕ)) (ends : ℕ → ℕ → ℕ)
    → IsSumOfIntervals m.cost (m.between step) m.counts step → AreRowsBy (m.between step) m.counts step limit (number_at rows) ends
    → HasShape rows limit (places m.counts step) → (refusal : Refusal)
    → let table = tuned_table m.counts step limit ends in
    MeetsOn m (record { table = table; limit = limit; step = step; forced = forced; cost = m.cost table; rows = rows }) refusal
rows-optimal_by m step limit forced rows ends sums tuned shape = meets
  where
    canonical : IsCanonicalBy m.cost m.counts step limit (tuned_table m.counts step limit ends)
        × (m.cost (tuned_table m.counts step limit ends) ≡ number_at rows limit 0)
    canonical = rows-canonical m.cost (m.between step) m.counts step limit (number_at rows) ends sums tuned

    valid : AreValidPotentials (span_cost (m.between step) m.counts step) (places m.counts step) limit (number_at rows)
    valid = least_rows_are_valid _ _ _ _ ends tuned.least

    table : List ℕ
    table = tuned_table m.counts step limit ends

    meets : (refusal : Refusal)
        → MeetsOn m (record { table = table; limit = limit; step = step; forced = forced; cost = m.cost table; rows = rows }) refusal
    meets OffStep = (tuned.is_step, canonical.0.best.candidate.legal.fitting)
    meets OverLimit = canonical.0.best.candidate.few
    meets NotServing = canonical.0.best.candidate.serving
    meets WasteWrong = refl
    meets Shape = shape
    meets LastClass = valid.last_class tuned.some
    meets StageDrop = valid.stage_drop
    meets Edge = valid.edge
    meets NotTight = sym canonical.1

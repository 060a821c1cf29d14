-- Sheets, what has to hold of one, and the verdict on it.
use Rattle.std.specs.Prelude.{◌≡◌, ℕ, ◌<◌, ◌≤◌, Bool, List, length}
use Rattle.class_table.specs.{Steps.{IsStep}, Tables.{FitsStep}}
use Rattle.tuner_theory.specs.{Intervals.{span_cost}, Measures.{Measure, footprint_on, waste_on}, Rows.{HasShape, number_at}}
use Rattle.tuner_theory.specs.{Potentials.{KeepsEdges, KeepsLastClass, KeepsStageDrops}, Served.{served}, Spans.{places}, Waste.{Serves}}
use Rattle.tuner_theory.specs.declared.verdict.{Refusal.{Refusal}, Verdict.{Verdict}, Verdict.TheVariants.{Optimal, Refused}}
use Rattle.tuner_theory.specs.declared.verdict.Refusal.TheVariants.{LastClass, StageDrop, Edge, NotTight, OffStep, OverLimit, NotServing}
use Rattle.tuner_theory.specs.declared.verdict.Refusal.TheVariants.{WasteWrong, Shape}

-- A class table with the certificate of its cost: its waste on a profile, or its footprint over a history. `forced` is whether the table has to
-- have the largest class.
pub record Sheet : Type 0 where
  pub table : List ℕ
  pub limit : ℕ
  pub step : ℕ
  pub forced : Bool
  pub cost : ℕ
  pub rows : List (List ℕ)

-- What a sheet has to meet by a measure, by the refusal that it gets otherwise. Its `cost` is what it says of the cost of its table.
abbrev pub MeetsOn : Measure → Sheet → Refusal → Type 0
MeetsOn m s OffStep = IsStep s.step × FitsStep s.step s.table
MeetsOn m s OverLimit = length s.table ≤ s.limit
MeetsOn m s NotServing = Serves m.counts s.table
MeetsOn m s WasteWrong = s.cost ≡ m.cost s.table
MeetsOn m s Shape = HasShape s.rows s.limit (places m.counts s.step)
MeetsOn m s LastClass =
    KeepsLastClass (span_cost (m.between s.step) m.counts s.step) (places m.counts s.step) (number_at s.rows)
MeetsOn m s StageDrop = KeepsStageDrops (places m.counts s.step) s.limit (number_at s.rows)
MeetsOn m s Edge =
    KeepsEdges (span_cost (m.between s.step) m.counts s.step) (places m.counts s.step) s.limit (number_at s.rows)
MeetsOn m s NotTight = number_at s.rows s.limit 0 ≡ s.cost

-- What a sheet has to meet for the counts of a profile: the cost is the waste.
abbrev pub Meets : List ℕ → Sheet → Refusal → Type 0
Meets counts s refusal = MeetsOn (waste_on counts) s refusal

-- The code of a refusal. What has the lesser code is looked at first. The text of a refusal begins with it (`code-shown`).
abbrev pub code_of : Refusal → ℕ
code_of OffStep = 39
code_of OverLimit = 40
code_of NotServing = 41
code_of WasteWrong = 42
code_of Shape = 43
code_of LastClass = 44
code_of StageDrop = 45
code_of Edge = 46
code_of NotTight = 47

-- All conditions before this one are met.
abbrev pub AreMetBefore : (Refusal → Type 0) → Refusal → Type 0
AreMetBefore meets refusal = (earlier : Refusal) → code_of earlier < code_of refusal → meets earlier

-- The verdict by some conditions: what meets them all is optimal; another is refused by the least code of what it does not meet.
abbrev pub IsVerdictBy : (Refusal → Type 0) → Verdict → Type 0
IsVerdictBy meets Optimal = (refusal : Refusal) → meets refusal
IsVerdictBy meets (Refused refusal) = AreMetBefore meets refusal × (meets refusal → ⊥)

-- The verdict on a sheet by a measure;
abbrev pub IsVerdictOn : Measure → Sheet → Verdict → Type 0
IsVerdictOn m s verdict = IsVerdictBy (MeetsOn m s) verdict

-- for the counts of a profile, where the largest size is one of them if the largest class is forced;
abbrev pub IsVerdict : List ℕ → Sheet → Verdict → Type 0
IsVerdict counts s verdict = IsVerdictOn (waste_on (served s.forced counts)) s verdict

-- and on a fit, which is a sheet of the footprint, for the snapshots of a history.
abbrev pub IsFitVerdict : List (List ℕ) → Sheet → Verdict → Type 0
IsFitVerdict snapshots fit verdict = IsVerdictOn (footprint_on fit.forced snapshots) fit verdict

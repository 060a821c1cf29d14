-- The verdict on a fit over a timeline. The fit names some moments: over their history it is checked as any fit, and its table has to serve
-- the whole timeline and to take no more over it.
use Rattle.std.specs.Prelude.{◌≡◌, ℕ, ◌⊎◌, List}
use Rattle.tuner_theory.specs.{Histories.{peaks}, Sheets.{IsFitVerdict, Sheet}, Timelines.{AreMoments, footprint_over, history_at, moments}}
use Rattle.tuner_theory.specs.{Waste.{Serves}, declared.size_event.SizeEvent.{SizeEvent}, declared.verdict.Refusal.{Refusal}}
use Rattle.tuner_theory.specs.declared.verdict.{Refusal.TheVariants.{NotServing, WasteWrong}, Verdict.TheVariants.{Optimal, Refused}}
use Rattle.potential_check.specs.declared.footprints.timelines.verdict.OverRefusal.TheVariants.{NotMoments, OfFit}
use Rattle.potential_check.specs.declared.footprints.timelines.verdict.OverVerdict.{OverVerdict}
use Rattle.potential_check.specs.declared.footprints.timelines.verdict.OverVerdict.TheVariants.{Optimal as OptimalOver}
use Rattle.potential_check.specs.declared.footprints.timelines.verdict.OverVerdict.TheVariants.{Refused as RefusedOver}

-- What breaks only over the whole timeline.
abbrev pub IsBrokenBeyond : List SizeEvent → Sheet → Refusal → Type 0
IsBrokenBeyond events fit NotServing = Serves (peaks (moments events)) fit.table → ⊥
IsBrokenBeyond events fit WasteWrong =
    Serves (peaks (moments events)) fit.table × (footprint_over events fit.table ≡ fit.cost → ⊥)
IsBrokenBeyond events fit refusal = ⊥

-- The fit meets all conditions.
pub record IsOptimalOver (events : List SizeEvent) (numbers : List ℕ) (fit : Sheet) : Type 0 where
  pub are : AreMoments events numbers
  pub over_moments : IsFitVerdict (history_at events numbers) fit Optimal
  pub serving : Serves (peaks (moments events)) fit.table
  pub takes : footprint_over events fit.table ≡ fit.cost

-- The first condition that it breaks: one of those over its moments, or one of the two over the whole timeline.
pub record IsRefusedOver (events : List SizeEvent) (numbers : List ℕ) (fit : Sheet) (refusal : Refusal) : Type 0 where
  pub are : AreMoments events numbers
  pub breaks : IsFitVerdict (history_at events numbers) fit (Refused refusal)
      ⊎ (IsFitVerdict (history_at events numbers) fit Optimal × IsBrokenBeyond events fit refusal)

abbrev pub IsOverVerdict : List SizeEvent → List ℕ → Sheet → OverVerdict → Type 0
IsOverVerdict events numbers fit OptimalOver = IsOptimalOver events numbers fit
IsOverVerdict events numbers fit (RefusedOver NotMoments) = AreMoments events numbers → ⊥
IsOverVerdict events numbers fit (RefusedOver (OfFit refusal)) = IsRefusedOver events numbers fit refusal

-- A certificate with a forced class that meets all conditions has the best of the tables with that class.
use Rattle.std.proofs.Common.{◌≡◌, ℕ, true, List, Bool, refl, subst}
use Rattle.class_table.specs.Tables.{IsLegalTable}
use Rattle.tuner_theory.proofs.{FootprintLawLemmas.{optimal_fit_is_least, peaks_are_counts}, Served.{best_with_largest, served_waste}}
use Rattle.tuner_theory.{proofs.Sheets.{optimal_is_best}, specs.Best.{IsBestBy}, specs.Footprint.{IsLeastFootprint, footprint_of}}
use Rattle.tuner_theory.specs.{Forced.{IsBestWithLargest}, Histories.{AreSnapshots, peaks}, Profiles.{AreCounts}, Served.{served}}
use Rattle.tuner_theory.specs.{Sheets.{IsFitVerdict, IsVerdict, Sheet}, Waste.{waste_of}, declared.verdict.Verdict.TheVariants.{Optimal}}

pub forced_sheet_is_best : (counts : List ℕ) (sheet : Sheet) → AreCounts counts → IsLegalTable 1 sheet.table → sheet.forced ≡ true
    → IsVerdict counts sheet Optimal → IsBestWithLargest (waste_of counts) counts sheet.step sheet.limit sheet.table
forced_sheet_is_best counts sheet are legal forced meets =
    best_with_largest (waste_of counts) (waste_of (served true counts)) counts sheet.step sheet.limit sheet.table are
    (λ table legal. served_waste true counts table legal.in_range)
    (subst (λ (f : Bool). IsBestBy (waste_of (served f counts)) (served f counts) sheet.step sheet.limit sheet.table) forced
    (optimal_is_best counts sheet legal meets))

pub forced_fit_is_best : (snapshots : List (List ℕ)) (fit : Sheet) → AreSnapshots snapshots → IsLegalTable 1 fit.table → fit.forced ≡ true
    → IsFitVerdict snapshots fit Optimal → IsBestWithLargest (footprint_of snapshots) (peaks snapshots) fit.step fit.limit fit.table
forced_fit_is_best snapshots fit are legal forced meets =
    best_with_largest (footprint_of snapshots) (footprint_of snapshots) (peaks snapshots) fit.step fit.limit fit.table
    (peaks_are_counts snapshots are) (λ table legal. refl)
    (subst (λ (f : Bool). IsLeastFootprint f snapshots fit.step fit.limit fit.table) forced
    (optimal_fit_is_least snapshots fit are legal meets))

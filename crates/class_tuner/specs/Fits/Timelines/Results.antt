-- The results of the fitter.
use Rattle.std.specs.Prelude.{◌≡◌, ◌≤◌, ℕ, Bool, List, max}
use Rattle.potential_check.specs.Certificates.SheetView.{sheet_of}
use Rattle.tuner_theory.specs.declared.size_event.SizeEvent.{SizeEvent}
use Rattle.class_tuner.specs.{Fits.Timelines.Found.{IsBetween, IsLeastFit}, declared.fits.timelines.timeline_fit.FitOutcome.{FitOutcome}}
use Rattle.class_tuner.specs.declared.fits.timelines.timeline_fit.FitOutcome.TheVariants.{Between, Least}

-- What is found in `made` rounds, where at most so many are to be made, but for the first.
abbrev pub IsFound : List SizeEvent → ℕ → ℕ → Bool → ℕ → ℕ → FitOutcome → Type 0
IsFound events step limit forced rounds made (Least fit numbers) =
    (made ≤ max rounds 1) × IsLeastFit events step limit forced made numbers.items (sheet_of fit)
IsFound events step limit forced rounds made (Between table takes least) =
    (made ≡ max rounds 1) × IsBetween events step limit forced made table takes least

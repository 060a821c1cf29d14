-- What a fitter finds over a timeline.
use Rattle.std.specs.{List.Sorted.{IsStrictlyIncreasing}, Prelude.{◌≡◌, ℕ, suc, ◌≤◌, Bool, List}}
use Rattle.class_tuner.specs.Fits.Timelines.Rounds.{AreLoose, AreRoundMoments, IsGreatestOfRounds, IsLeastOfRounds, IsRound}
use Rattle.tuner_theory.specs.{Best.{IsCandidate}, Footprint.{IsFitted}, Histories.{peaks}, Served.{served}, Sheets.{Sheet}}
use Rattle.tuner_theory.specs.{Timelines.{AreMoments, footprint_over, moments}, declared.size_event.SizeEvent.{SizeEvent}}

-- The fit and the moments of the last of `made` rounds, the first whose table takes no more over the whole timeline: the one that is fitted
-- over every moment. The moments' numbers ascend, as those of a line do.
pub record IsLeastFit (events : List SizeEvent) (step limit : ℕ) (forced : Bool) (made : ℕ) (numbers : List ℕ) (fit : Sheet) : Type 0 where
  pub earlier : ℕ
  pub last : made ≡ suc earlier
  pub round : IsRound events step limit forced earlier numbers fit
  pub loose : AreLoose events step limit forced earlier
  pub are : AreMoments events numbers
  pub ascending : IsStrictlyIncreasing numbers
  pub takes : footprint_over events fit.table ≡ fit.cost
  pub fitted : IsFitted forced (moments events) step limit fit.table

-- After `made` rounds, whose tables all take more over the whole timeline than over their moments: the first of these tables that takes
-- least, what it takes, and the greatest of what the rounds' fits take over their moments. No table in question takes less than that.
pub record IsBetween (events : List SizeEvent) (step limit : ℕ) (forced : Bool) (made : ℕ) (table : List ℕ) (takes least : ℕ) : Type 0 where
  pub next : (numbers : List ℕ) × AreRoundMoments events step limit forced made numbers
  pub loose : AreLoose events step limit forced made
  pub best : IsLeastOfRounds events step limit forced made table
  pub taken : takes ≡ footprint_over events table
  pub greatest : IsGreatestOfRounds events step limit forced made least
  pub candidate : IsCandidate (served forced (peaks (moments events))) step limit table
  pub bound : (other : List ℕ) → IsCandidate (served forced (peaks (moments events))) step limit other → least ≤ footprint_over events other

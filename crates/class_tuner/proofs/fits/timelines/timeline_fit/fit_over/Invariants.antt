use Rattle.std.proofs.Common.{◌≤◌, max}
use Rattle.class_tuner.proofs.FitLemmas.TimelineLemmas.Rounds.{AreSoFar}
use Rattle.class_tuner.proofs.fits.timelines.timeline_fit.fit_over.Given as goal

abbrev pub invariant-loop-made : goal.invariant-loop-made
invariant-loop-made l = record {
  so_far : AreSoFar l.events l.decisive l.step l.limit l.forced l.made l.numbers.items l.best l.least l.evaluations;
  within : l.made ≤ max l.rounds 1;
}

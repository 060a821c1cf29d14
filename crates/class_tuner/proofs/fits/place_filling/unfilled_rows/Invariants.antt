use Rattle.class_tuner.specs.Fits.PlaceByPlace.{AreRowsSoFar}
use Rattle.tuner_theory.specs.Lists.{lists_of}
use Rattle.class_tuner.proofs.fits.place_filling.unfilled_rows.Given as goal

abbrev pub invariant-loop : goal.invariant-loop
invariant-loop l = record { so_far : AreRowsSoFar l.places l.counter (lists_of l.filled.rows.items) (lists_of l.filled.ends.items) }

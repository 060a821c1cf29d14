use Rattle.potential_check.specs.Footprints.Bounds.{AreZeros}
use Rattle.tuner_theory.specs.Lists.{lists_of}
use Rattle.potential_check.proofs.footprints.slack.no_bounds.Given as goal

abbrev pub invariant-loop : goal.invariant-loop
invariant-loop l = record { zeros : AreZeros l.counter l.blocks (lists_of l.bounds.items) }

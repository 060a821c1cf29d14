use Rattle.std.proofs.Common.{◌-◌, arith}
use Rattle.tuner_theory.proofs.{LawLemmas.{places_ascend}, Rounding.{step-positive}}
use Rattle.potential_check.proofs.footprints.snapshot_sums.cuts.Goals as goal

pub line_from-line-requires-clause-below : goal.line_from-line-requires-clause-below
line_from-line-requires-clause-below c = λ k lt.
    let s = c.args.spans.now in
    omega (
      arith,
      c.loop-place.invariant.below k lt,
      c.class_end.ensures,
      c.need.ensures.need,
      places_ascend s.counts s.step (step-positive s.step c.places-place-end.ensures.valid.is_step) (c.loop-place.place - 1) c.loop-place.place
          (omega arith)
          (omega arith),
    )

use Rattle.std.proofs.{Common.{ℕ, slice_index, arith, inl, inr}, lemmas.Bool.{cases_lt}}
use Rattle.class_tuner.specs.Fits.PlaceByPlace.{end_cost}
use Rattle.class_tuner.proofs.fits.ends.least_of.Goals as goal

pub loop-j-preserved : goal.loop-j-preserved
loop-j-preserved c =
    let f : ℕ → ℕ = end_cost c.args.costs.now (slice_index c.args.before.now) in
    let j : ℕ = c.loop-j.j in
    let low : ℕ = c.loop-j.low in
    let is = c.loop-j.invariant in
    let least = c.min-low.ensures in
    record {
      low = grind arith;
      none = λ le. absurd (omega arith);
      reached = λ some. elim (cases_lt low (f j)) [
        | inl less ↦ grind arith
        | inr other ↦ record { end = j; from = omega arith; to = omega arith; is = omega (arith, least) }
      ];
    }

use Rattle.std.proofs.{Common.{◌+◌, ℕ, slice_index, arith, inl, inr}, lemmas.Bool.{cases_lt}}
use Rattle.class_tuner.specs.Fits.PlaceByPlace.{end_cost}
use Rattle.class_tuner.proofs.fits.ends.least_of_block.Goals as goal

pub loop-k-preserved : goal.loop-k-preserved
loop-k-preserved c =
    let f : ℕ → ℕ = end_cost c.args.costs.now (slice_index c.args.before.now) in
    let j : ℕ = c.args.start + c.loop-k.k in
    let low : ℕ = c.loop-k.low in
    let is = c.loop-k.invariant in
    let least = c.min-low.ensures in
    record {
      low = grind arith;
      none = λ le. absurd (omega arith);
      reached = λ some. elim (cases_lt low (f j)) [
        | inl less ↦ grind arith
        | inr other ↦ record { end = j; from = omega arith; to = omega arith; is = omega (arith, least) }
      ];
    }

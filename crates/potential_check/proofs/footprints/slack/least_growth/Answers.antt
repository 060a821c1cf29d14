use Rattle.std.proofs.{Common.{◌-◌, ℕ, slice_index, arith, inl, inr}, lemmas.Bool.{cases_lt}}
use Rattle.potential_check.proofs.footprints.slack.least_growth.Goals as goal

pub loop-j-preserved : goal.loop-j-preserved
loop-j-preserved c =
    let own : ℕ = slice_index c.args.costs.now c.loop-j.j - slice_index c.args.older.now c.loop-j.j in
    record {
      least = grind arith;
      none = λ le. absurd (omega (arith, c.loop-j.auto.j));
      grown = λ _. elim (cases_lt own c.loop-j.growth) [
        | inl less ↦ (c.loop-j.j, omega (arith, c.loop-j.auto.j), omega arith, omega (arith, c.min-growth.ensures))
        | inr kept ↦ grind arith
      ];
    }

use Rattle.std.proofs.{Common.{◌+◌, ◌-◌, ℕ, slice_index, arith, inl, inr}, lemmas.Bool.{cases_lt}}
use Rattle.potential_check.proofs.footprints.slack.least_of_block.Goals as goal

pub loop-k-preserved : goal.loop-k-preserved
loop-k-preserved c =
    let j : ℕ = c.args.start + c.loop-k.k in
    let own : ℕ = slice_index c.args.costs.now j - slice_index c.args.older.now j in
    record {
      least = grind arith;
      none = λ le. absurd (omega arith);
      grown = λ _. elim (cases_lt own c.loop-k.growth) [
        | inl less ↦ (j, omega arith, omega arith, omega (arith, c.min-growth.ensures))
        | inr kept ↦ grind arith
      ];
    }

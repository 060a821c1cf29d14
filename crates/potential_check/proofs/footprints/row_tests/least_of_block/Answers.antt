use Rattle.std.proofs.{Common.{◌+◌, ◌≤◌, ℕ, arith}}
use Rattle.potential_check.proofs.footprints.row_tests.least_of_block.Goals as goal

pub loop-k-preserved : goal.loop-k-preserved
loop-k-preserved c =
    let j : ℕ = c.args.start + c.loop-k.k in
    record {
      within = grind arith;
      greatest = λ number small within.
          let before : number ≤ c.loop-k.low =
          c.loop-k.invariant.greatest number small (record { each = λ m from lt. within.each m from (omega arith) }) in
          omega (arith, before, within.each j (omega arith) (omega arith), c.min-low.ensures, c.saturating_add.ensures);
    }

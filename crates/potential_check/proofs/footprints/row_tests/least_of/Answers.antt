use Rattle.std.proofs.{Common.{◌≤◌, ℕ, arith}}
use Rattle.potential_check.proofs.footprints.row_tests.least_of.Goals as goal

pub loop-j-preserved : goal.loop-j-preserved
loop-j-preserved c =
    let j : ℕ = c.loop-j.j in
    record {
      within = grind arith;
      greatest = λ number small within.
          let before : number ≤ c.loop-j.low =
          c.loop-j.invariant.greatest number small (record { each = λ m from lt. within.each m from (omega arith) }) in
          omega (arith, before, within.each j (omega arith) (omega arith), c.min-low.ensures, c.saturating_add.ensures);
    }

-- Rows that say no more than the row before them.
use Rattle.std.specs.Prelude.{◌≡◌, ℕ, suc, ◌<◌, ◌≤◌}

-- From place `start` on, each row after row `alike` has the numbers of the row before it.
pub record AreAlikeFrom (rows : ℕ → ℕ → ℕ) (limit start alike : ℕ) : Type 0 where
  pub some : 1 ≤ alike
  pub each : (k j : ℕ) → alike ≤ k → k < limit → start ≤ j → rows (suc k) j ≡ rows k j

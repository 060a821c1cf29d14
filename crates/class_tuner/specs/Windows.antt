-- Windows of ends.
use Rattle.std.specs.Prelude.{ℕ, ◌<◌, ◌≤◌}

-- The ends from low to high, at least one, come after a place and are at most d.
pub record IsWindowAfter (place low high d : ℕ) : Type 0 where
  pub after : place < low
  pub some : low ≤ high
  pub within : high ≤ d

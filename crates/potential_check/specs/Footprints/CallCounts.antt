-- How many spans there are.
use Rattle.std.specs.Prelude.{ℕ, ◌+◌, ◌*◌, ◌/◌}

-- How many spans go from one of the places 0 to d to a later one.
abbrev pub span_count : ℕ → ℕ
span_count d = d * (d + 1) / 2

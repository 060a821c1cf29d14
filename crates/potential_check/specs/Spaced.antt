-- Numbers in a line.
use Rattle.std.specs.{Fmt.{decimal}, List.{flat_map}, Prelude.{ℕ, List, ◌∷◌}}

-- Numbers, each after a space.
abbrev pub spaced : List ℕ → List ℕ
spaced numbers = flat_map (λ n. 32 ∷ decimal n) numbers

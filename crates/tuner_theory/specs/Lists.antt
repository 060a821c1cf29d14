-- Vectors of vectors of numbers, as lists of lists: rows of a certificate, and snapshots of a history.
use Rattle.std.specs.{Prelude.{ℕ, List, Vec, map}, declared.alloc.Global.{Global}}

abbrev pub lists_of : List (Vec ℕ Global) → List (List ℕ)
lists_of vectors = map (λ (v : Vec ℕ Global). v.items) vectors

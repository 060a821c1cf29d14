-- The counts whose sizes a table has to serve.
use Rattle.std.specs.Prelude.{ℕ, max, Bool, true, false, List, slice_index, slice_set}
use Rattle.class_table.specs.Sizes.{largest_counted}

-- Those of a profile. Where the largest class is forced, the largest size that is counted is one of them, requested or not: no other class
-- serves it, and in that class it loses nothing.
abbrev pub served : Bool → List ℕ → List ℕ
served false counts = counts
served true counts = slice_set counts largest_counted (max 1 (slice_index counts largest_counted))

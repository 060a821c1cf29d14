use Rattle.std.proofs.Common.{◌≡◌, ℕ, ◌-◌, ◌<◌, ◌++◌, List, [], length, replicate, slice_index_or, slice_set, arith, take, Vec}
use Rattle.std.{proofs.lemmas.List.{get_or-map, map-set}, specs.declared.alloc.Global.{Global}}
use Rattle.tuner_theory.specs.Lists.{lists_of}
use Rattle.history_count.proofs.counted_lines.resize_column.Goals as goal

-- one column with other items
set-column : (columns : List (Vec ℕ Global)) (t room size : ℕ) (old new : Vec ℕ Global) → t < length columns
    → old ≡ slice_index_or columns t old → length old.items ≡ size → new.items ≡ take room old.items ++ replicate (room - size) 0
    → lists_of (slice_set columns t new) ≡ slice_set (lists_of columns) t
    (take room (slice_index_or (lists_of columns) t []) ++ replicate (room - length (slice_index_or (lists_of columns) t [])) 0)
set-column columns t room size old new lt at long is = grind (arith, get_or-map, map-set)

pub returns : goal.returns
returns c = grind (arith, set-column)

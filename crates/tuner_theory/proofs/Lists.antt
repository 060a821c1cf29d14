-- Vectors of vectors, and their rows.
use Rattle.std.{proofs.Common.{◌≡◌, ℕ, ◌<◌, List, [], length, slice_index_or, slice_set, arith, ap, ◌∙◌, Vec}, specs.Vec.{with_item}}
use Rattle.std.{proofs.lemmas.List.{get_or-map, length-map, map-set}, specs.declared.alloc.Global.{Global}}
use Rattle.tuner_theory.specs.Lists.{lists_of}

pub lists-length : (vectors : List (Vec ℕ Global)) → length (lists_of vectors) ≡ length vectors
lists-length vectors = length-map vectors (λ (v : Vec ℕ Global). v.items)

-- a row of a vector of vectors
pub row-read : (rows : List (Vec ℕ Global)) (k : ℕ) (d : Vec ℕ Global) (row : List ℕ) → k < length (lists_of rows)
    → row ≡ (slice_index_or rows k d).items → row ≡ slice_index_or (lists_of rows) k []
row-read rows k d row lt is = grind (arith, lists-length, get_or-map)

pub row-read_at : (rows : List (Vec ℕ Global)) (k : ℕ) (v : Vec ℕ Global) (row : List ℕ) → k < length (lists_of rows)
    → v ≡ slice_index_or rows k v → row ≡ v.items → row ≡ slice_index_or (lists_of rows) k []
row-read_at rows k v row lt at is = row-read rows k v row lt (is ∙ ap (λ (v : Vec ℕ Global). v.items) at)

-- one number of one vector
pub set-lists : (rows : List (Vec ℕ Global)) (k place x : ℕ) (d : Vec ℕ Global) → k < length rows
    → lists_of (slice_set rows k (with_item (slice_index_or rows k d) place x))
    ≡ slice_set (lists_of rows) k (slice_set (slice_index_or (lists_of rows) k []) place x)
set-lists rows k place x d lt = grind (arith, map-set, get_or-map)

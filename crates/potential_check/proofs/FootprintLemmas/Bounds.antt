-- Bounds of blocks of ends, from row to row and from place to place.
use Rattle.std.proofs.Common.{◌≡◌, ◌≢◌, ℕ, ◌+◌, ◌/◌, ◌<◌, ◌≤◌, List, [], length, slice_index, slice_index_or, slice_set, arith, ap}
use Rattle.std.{proofs.Common.{◌∙◌, Vec}, proofs.lemmas.Bool.{cases_eq, cases_lt}, specs.declared.alloc.Global.{Global}}
use Rattle.std.proofs.lemmas.List.{get_or-replicate, get_or-set_other, get_or-set_same, length-replicate, length-set, map-set}
use Rattle.potential_check.specs.Footprints.Bounds.{AreBounds, AreRowBounds, AreZeros, IsNarrowed, IsSlack}
use Rattle.potential_check.specs.declared.footprints.slack.TheConstants.{BLOCK}
use Rattle.tuner_theory.{proofs.Lists.{lists-length}, specs.Lists.{lists_of}}

module _ (costs slack : List ℕ) (place d : ℕ) where
  -- a block that begins after the place has a bound by its ends
  pub bounds-set : (before : ℕ → ℕ) (bounds : List ℕ) (b v : ℕ) → place / BLOCK < b → b < length bounds
      → ((j : ℕ) → j / BLOCK ≡ b → j < d → v ≤ slice_index costs j + before j + slice_index slack b)
      → AreBounds costs slack place d before bounds → AreBounds costs slack place d before (slice_set bounds b v)
  bounds-set before bounds b v after within le are = grind (arith, length-set, cases_eq, get_or-set_same, get_or-set_other)

  -- what a row has at the place and before it does not matter
  pub bounds-same : (f g : ℕ → ℕ) (bounds : List ℕ) → ((j : ℕ) → place < j → f j ≡ g j) → AreBounds costs slack place d f bounds
      → AreBounds costs slack place d g bounds
  bounds-same f g bounds same are = grind arith

  pub row_bounds-same : (limit : ℕ) (f g : ℕ → ℕ → ℕ) (bounds : List (List ℕ)) → ((k j : ℕ) → place < j → f k j ≡ g k j)
      → AreRowBounds costs slack place d limit f bounds → AreRowBounds costs slack place d limit g bounds
  row_bounds-same limit f g bounds same are = grind (arith, bounds-same)

  -- the bounds of one row
  pub row_bounds-set : (limit : ℕ) (rows : ℕ → ℕ → ℕ) (bounds new : List (List ℕ)) (k : ℕ) → length new ≡ length bounds
      → ((m : ℕ) → m ≢ k → slice_index_or new m [] ≡ slice_index_or bounds m [])
      → AreBounds costs slack place d (rows k) (slice_index_or new k [])
      → AreRowBounds costs slack place d limit rows bounds → AreRowBounds costs slack place d limit rows new
  row_bounds-set limit rows bounds new k size others row are = grind (arith, cases_eq)

-- from a place to the one before it
pub row_bounds-next : (older costs old new : List ℕ) (place d limit : ℕ) (rows : ℕ → ℕ → ℕ) (bounds : List (List ℕ))
    → IsNarrowed older costs place d old new → AreRowBounds older old (place + 1) d limit rows bounds
    → AreRowBounds costs new place d limit rows bounds
row_bounds-next older costs old new place d limit rows bounds narrowed are = grind (arith, cases_lt)

pub slack-narrowed : (older costs old new : List ℕ) (place d : ℕ) → IsNarrowed older costs place d old new → IsSlack d old → IsSlack d new
slack-narrowed older costs old new place d narrowed is = grind arith

-- no bounds, at the end of all places
pub row_bounds-none : (costs slack : List ℕ) (d limit : ℕ) (rows : ℕ → ℕ → ℕ) (bounds : List (List ℕ)) → AreZeros limit (d / BLOCK + 1) bounds
    → AreRowBounds costs slack d d limit rows bounds
row_bounds-none costs slack d limit rows bounds zeros = grind (arith, length-replicate, get_or-replicate)

-- ---- one vector of vectors with other items

module _ (vs : List (Vec ℕ Global)) (k : ℕ) (v : Vec ℕ Global) (xs : List ℕ) (is : v.items ≡ xs) where
  row-set : lists_of (slice_set vs k v) ≡ slice_set (lists_of vs) k xs
  row-set = map-set (λ (v : Vec ℕ Global). v.items) vs k v ∙ ap (slice_set (lists_of vs) k) is

  pub row-others : (m : ℕ) → m ≢ k → slice_index_or (lists_of (slice_set vs k v)) m [] ≡ slice_index_or (lists_of vs) m []
  row-others m other = ap (λ (l : List (List ℕ)). slice_index_or l m []) row-set ∙ get_or-set_other (lists_of vs) k m xs [] other

  pub row-same : k < length vs → slice_index_or (lists_of (slice_set vs k v)) k [] ≡ xs
  row-same lt = grind (arith, row-set, get_or-set_same, lists-length)

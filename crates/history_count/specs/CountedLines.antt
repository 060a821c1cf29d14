-- The lines of a history, each a size and a count for each snapshot, and the snapshots that they spell.
use Rattle.std.specs.Prelude.{◌≡◌, ◌≢◌, ℕ, ◌+◌, ◌<◌, ◌≤◌, List, [], ◌∷◌, All, length, map, slice_index, slice_index_or, slice_set, take}
use Rattle.class_table.specs.Sizes.{largest_counted}
use Rattle.profile_count.specs.Counts.{zeros}
use Rattle.tuner_theory.specs.{Histories.{AreSnapshots}, Profiles.{Profile, greatest_count}}
use Rattle.history_count.specs.Histories.{peak_profile}

-- A snapshot with other counts of some sizes.
unfoldable pub with_sizes : List ℕ → List ℕ → List ℕ → List ℕ
with_sizes snapshot (size ∷ sizes) (count ∷ counts) = with_sizes (slice_set snapshot size count) sizes counts
with_sizes snapshot sizes counts = snapshot

-- The snapshots that count these sizes, and no others. Each column has the counts of one snapshot.
abbrev pub spread : List ℕ → List (List ℕ) → List (List ℕ)
spread sizes columns = map (λ column. with_sizes (zeros (largest_counted + 1)) sizes column) columns

-- The sizes of the lines ascend, and are counted ones.
pub record AreSizes (sizes : List ℕ) : Type 0 where
  pub ascending : (i j : ℕ) → i < j → j < length sizes → slice_index sizes i < slice_index sizes j
  pub small : (k : ℕ) → k < length sizes → slice_index sizes k ≤ largest_counted

-- A snapshot counts these sizes so often, and no others.
pub record CountsSizes (snapshot sizes column : List ℕ) : Type 0 where
  pub size : length column ≡ length sizes
  pub counted : (k : ℕ) → k < length sizes → slice_index snapshot (slice_index sizes k) ≡ slice_index column k
  pub others : (n : ℕ) → ((k : ℕ) → k < length sizes → slice_index sizes k ≢ n) → slice_index snapshot n ≡ 0

-- The snapshots count these sizes, which ascend, and no others.
pub record AreLinesOf (snapshots : List (List ℕ)) (sizes : List ℕ) (columns : List (List ℕ)) : Type 0 where
  pub sizes_are : AreSizes sizes
  pub width : length columns ≡ length snapshots
  pub each : (t : ℕ) → t < length snapshots → CountsSizes (slice_index_or snapshots t []) sizes (slice_index_or columns t [])

-- Of these lines, the first so many are those of the sizes below this one.
pub record IsCutAt (sizes : List ℕ) (line end : ℕ) : Type 0 where
  pub within : line ≤ length sizes
  pub below : (k : ℕ) → k < line → slice_index sizes k < end
  pub above : (k : ℕ) → line ≤ k → k < length sizes → end ≤ slice_index sizes k

-- What is kept of lines for so many snapshots.
pub record HoldsLines (count : ℕ) (sizes : List ℕ) (columns : List (List ℕ)) (peaks : Profile) : Type 0 where
  pub width : length columns ≡ count
  pub sizes_are : AreSizes sizes
  pub columns_are : All (λ column. length column ≡ length sizes) columns
  pub snapshots : AreSnapshots (spread sizes columns)
  pub peaks_are : peaks ≡ peak_profile (spread sizes columns)

-- Such lines spell these snapshots.
pub record SpellLines (sizes : List ℕ) (columns : List (List ℕ)) (peaks : Profile) (snapshots : List (List ℕ)) : Type 0 where
  pub are : snapshots ≡ spread sizes columns
  pub holds : HoldsLines (length snapshots) sizes columns peaks

-- The counts of the first lines, in columns that may have room for more of them.
abbrev pub first_counts : ℕ → List (List ℕ) → List (List ℕ)
first_counts lines columns = map (λ column. take lines column) columns

-- The columns all have the same room, for so many lines or for more.
pub record HaveRoom (lines : ℕ) (columns : List (List ℕ)) : Type 0 where
  pub room : ℕ
  pub wide : All (λ column. length column ≡ room) columns
  pub within : lines ≤ room

-- While lines come, in columns with room for more: those so far spell these snapshots, and their sizes are below this one.
pub record SpellSoFar (sizes : List ℕ) (columns : List (List ℕ)) (peaks : Profile) (snapshots : List (List ℕ)) (next : ℕ) : Type 0 where
  pub spelled : SpellLines sizes (first_counts (length sizes) columns) peaks snapshots
  pub room : HaveRoom (length sizes) columns
  pub below : (k : ℕ) → k < length sizes → slice_index sizes k < next

-- What a history keeps: its lines, and for each snapshot a count of large blocks.
pub record HoldsHistory (sizes : List ℕ) (columns : List (List ℕ)) (large : List ℕ) (peaks : Profile) : Type 0 where
  pub lines : HoldsLines (length large) sizes columns peaks
  pub large_are : All (λ count. count ≤ greatest_count) large

-- Each column has so many counts, none of them too great.
pub record AreFew (size : ℕ) (columns : List (List ℕ)) : Type 0 where
  pub long : All (λ column. length column ≡ size) columns
  pub few : All (λ column. (k : ℕ) → slice_index column k ≤ greatest_count) columns

-- Histories: how many blocks of each size were live at each of some snapshots.
use Rattle.std.specs.{List.{range_with_len}, Prelude.{ℕ, ◌+◌, ◌≤◌, max, List, [], ◌∷◌, length, map, slice_index, All}}
use Rattle.class_table.specs.Sizes.{largest_counted}
use Rattle.tuner_theory.specs.{Profiles.{AreCounts}, declared.most_snapshots.TheConstants.{MOST_SNAPSHOTS}}

-- The most that a measure is over some snapshots. A snapshot counts the live blocks of each size, as a profile counts its requests.
abbrev pub most : (List ℕ → ℕ) → List (List ℕ) → ℕ
most measure [] = 0
most measure (snapshot ∷ snapshots) = max (measure snapshot) (most measure snapshots)

-- The snapshots of a history: 1 to 1,024.
pub record AreSnapshots (snapshots : List (List ℕ)) : Type 0 where
  pub some : 1 ≤ length snapshots
  pub few : length snapshots ≤ MOST_SNAPSHOTS
  pub counts : All AreCounts snapshots

-- The peak of each size: the most blocks of this size that were live at a snapshot. A size is counted where its peak is not 0. Not an
-- abbreviation, since proofs would compute the list.
unfoldable pub peaks : List (List ℕ) → List ℕ
peaks snapshots = map (λ n. most (λ snapshot. slice_index snapshot n) snapshots) (range_with_len 0 (largest_counted + 1))

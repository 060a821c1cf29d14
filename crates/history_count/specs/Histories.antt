-- Histories as they are read: the snapshots, and how many large blocks were live at each of them.
use Rattle.std.specs.Prelude.{◌≡◌, ℕ, ◌+◌, ◌-◌, ◌≤◌, max, List, [], ◌∷◌, length, map, replicate, slice_index, slice_set, All}
use Rattle.class_table.specs.Sizes.{largest_counted}
use Rattle.profile_count.specs.Counts.{zeros}
use Rattle.tuner_theory.specs.{Histories.{AreSnapshots, peaks}, Profiles.{Profile, greatest_count}, Waste.{sum_below}}

pub record History : Type 0 where
  pub snapshots : List (List ℕ)
  pub large : List ℕ

pub record IsHistory (history : History) : Type 0 where
  pub snapshots : AreSnapshots history.snapshots
  pub large_size : length history.large ≡ length history.snapshots
  pub large : All (λ count. count ≤ greatest_count) history.large

-- Its peaks as a profile.
abbrev pub peak_profile : List (List ℕ) → Profile
peak_profile snapshots = record { counts = peaks snapshots; large = 0 }

-- A history of so many snapshots that counts nothing. The snapshots are opaque, since they are long.
unfoldable pub empty_snapshots : ℕ → List (List ℕ)
empty_snapshots count = replicate count (zeros (largest_counted + 1))

abbrev pub nothing_counted : ℕ → History
nothing_counted count = record { snapshots = empty_snapshots count; large = zeros count }

-- The counts of one size, one for each snapshot.
abbrev pub counts_of : List (List ℕ) → ℕ → List ℕ
counts_of snapshots size = map (λ snapshot. slice_index snapshot size) snapshots

-- The snapshots with other counts of one size, one for each snapshot.
unfoldable pub with_counts : List (List ℕ) → ℕ → List ℕ → List (List ℕ)
with_counts (snapshot ∷ snapshots) size (count ∷ counts) = slice_set snapshot size count ∷ with_counts snapshots size counts
with_counts snapshots size counts = snapshots

-- The greatest of some counts, and 0 if there are none.
abbrev pub greatest_of : List ℕ → ℕ
greatest_of [] = 0
greatest_of (count ∷ counts) = max count (greatest_of counts)

-- How many blocks a snapshot has of the sizes from one up to the one before another.
abbrev pub blocks_from : ℕ → ℕ → List ℕ → ℕ
blocks_from from end snapshot = sum_below (slice_index snapshot) end - sum_below (slice_index snapshot) from

-- What a table takes over a history, class by class, while the history's lines come: sizes ascend, and so do the classes that serve them.
use Rattle.std.specs.Prelude.{◌≡◌, ℕ, ◌+◌, ◌-◌, ◌*◌, ◌<◌, ◌≤◌, List, [], ◌∷◌, All, length, map, slice_index, take}
use Rattle.class_table.specs.Sizes.{granule_bytes}
use Rattle.tuner_theory.specs.{Histories.{AreSnapshots, most}, Profiles.{Profile}}
use Rattle.history_count.specs.{Histories.{blocks_from, peak_profile}, declared.class_sums.ClassSums.{ClassSums}}

-- The first size that a class does not serve.
abbrev pub end_of_class : ℕ → ℕ
end_of_class class = granule_bytes * class - (granule_bytes - 1)

-- The first size that none of these classes serves, where they serve those from one on.
abbrev pub end_of : ℕ → List ℕ → ℕ
end_of from [] = from
end_of from (class ∷ classes) = end_of (end_of_class class) classes

-- What these classes take: each its block size times the most blocks of the sizes from where the one before it ends.
abbrev pub bytes_of : ℕ → List ℕ → List (List ℕ) → ℕ
bytes_of from [] snapshots = 0
bytes_of from (class ∷ classes) snapshots =
    granule_bytes * class * most (blocks_from from (end_of_class class)) snapshots + bytes_of (end_of_class class) classes snapshots

-- Two rows of numbers, added place by place.
abbrev pub sum_of_rows : List ℕ → List ℕ → List ℕ
sum_of_rows (block ∷ blocks) (count ∷ counts) = (block + count) ∷ sum_of_rows blocks counts
sum_of_rows blocks counts = blocks

-- No size from this one on is counted.
abbrev pub IsUncountedFrom : ℕ → List (List ℕ) → Type 0
IsUncountedFrom next snapshots = All (λ snapshot. (n : ℕ) → next ≤ n → slice_index snapshot n ≡ 0) snapshots

-- Of a table some classes are done, with what they take; of the one after them the blocks at each snapshot. The lines spell these snapshots,
-- and their sizes are below `next`, which the class serves or ends at.
pub record HoldsSums (table : List ℕ) (number total : ℕ) (blocks : List ℕ) (peaks : Profile) (snapshots : List (List ℕ)) (next : ℕ) : Type 0 where
  pub are : AreSnapshots snapshots
  pub peaks_are : peaks ≡ peak_profile snapshots
  pub uncounted : IsUncountedFrom next snapshots
  pub width : length blocks ≡ length snapshots
  pub within : number ≤ length table
  pub order : end_of 0 (take number table) ≤ next
  pub total_is : total ≡ bytes_of 0 (take number table) snapshots
  pub room : number < length table → next ≤ end_of_class (slice_index table number)
  pub blocks_are : number < length table → blocks ≡ map (blocks_from (end_of 0 (take number table)) next) snapshots

-- So it is in the code.
abbrev pub Holds : ClassSums → List (List ℕ) → ℕ → Type 0
Holds sums snapshots next = HoldsSums sums.table.now sums.number sums.total sums.blocks.items sums.peaks snapshots next

-- So it is after some lines.
pub record IsAfterLines (sums : ClassSums) : Type 0 where
  pub snapshots : List (List ℕ)
  pub next : ℕ
  pub holds : Holds sums snapshots next

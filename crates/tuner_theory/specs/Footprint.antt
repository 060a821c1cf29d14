-- The footprint of a table: what its classes take, each at the snapshot at which most of its own blocks are live.
use Rattle.std.specs.Option.{option_map_or}
use Rattle.std.specs.Prelude.{ℕ, ◌*◌, ◌&&◌, ◌==◌, Bool, false, nat_lt, nat_le, if◌then◌else◌, List, length, slice_index, sum_by}
use Rattle.class_table.specs.{Sizes.{granule_bytes}, Tables.{class_for}}
use Rattle.tuner_theory.specs.{Best.{IsBestBy, IsCanonicalBy}, Histories.{most, peaks}, Served.{served}, Spans.{rounded_need}}
use Rattle.tuner_theory.specs.Waste.{sum_below}

-- Whether this is the class of a size.
abbrev pub is_class_of : List ℕ → ℕ → ℕ → Bool
is_class_of classes class n = option_map_or (λ its. its == class) (class_for classes n) false

-- The blocks of a class at a snapshot: those of the sizes whose class it is.
abbrev pub blocks : List ℕ → ℕ → List ℕ → ℕ
blocks classes class snapshot =
    sum_below (λ n. if is_class_of classes class n then slice_index snapshot n else 0) (length snapshot)

-- The footprint of a table, in bytes: for each class its block size times the most blocks that it has at a snapshot.
abbrev pub footprint_of : List (List ℕ) → List ℕ → ℕ
footprint_of snapshots classes = sum_by (λ class. granule_bytes * class * most (blocks classes class) snapshots) classes

-- A table of least footprint, of those that are legal for the step, have at most `limit` classes and serve each counted size, and where the
-- largest class is forced the largest size too;
abbrev pub IsLeastFootprint : Bool → List (List ℕ) → ℕ → ℕ → List ℕ → Type 0
IsLeastFootprint forced snapshots step limit classes =
    IsBestBy (footprint_of snapshots) (served forced (peaks snapshots)) step limit classes

-- and of these whose every class is used the lexicographically least.
abbrev pub IsFitted : Bool → List (List ℕ) → ℕ → ℕ → List ℕ → Type 0
IsFitted forced snapshots step limit classes =
    IsCanonicalBy (footprint_of snapshots) (served forced (peaks snapshots)) step limit classes

-- ---- by intervals

-- The blocks at a snapshot whose rounded need is above `low` and at most `high`.
abbrev pub blocks_between : ℕ → ℕ → ℕ → List ℕ → ℕ
blocks_between step low high snapshot =
    sum_below (λ n. if nat_lt low (rounded_need step n) && nat_le (rounded_need step n) high then slice_index snapshot n else 0)
    (length snapshot)

-- What the class `high` takes for these blocks.
abbrev pub footprint_between : List (List ℕ) → ℕ → ℕ → ℕ → ℕ
footprint_between snapshots step low high = granule_bytes * high * most (blocks_between step low high) snapshots

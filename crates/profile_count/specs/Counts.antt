-- Counts of sizes, one request more, and the least counted size that a table does not serve.
use Rattle.std.specs.Prelude.{◌≡◌, ◌<◌, ◌≤◌, ℕ, suc, ◌+◌, ◌&&◌, List, [], ◌∷◌, Option, Some, None, nat_lt, nat_le, is_none, if◌then◌else◌}
use Rattle.std.specs.Prelude.{length, replicate, slice_index, slice_set}
use Rattle.class_table.specs.{Sizes.{largest_counted}, Tables.{class_for}}
use Rattle.tuner_theory.specs.Profiles.{Profile}

-- So many zeros. It is opaque, since there are many.
unfoldable pub zeros : ℕ → List ℕ
zeros n = replicate n 0

abbrev pub nothing_counted : Profile
nothing_counted = record { counts = zeros (largest_counted + 1); large = 0 }

-- A profile with another count of one size, or of the large requests.
abbrev pub with_count : Profile → ℕ → ℕ → Profile
with_count p size count = record { counts = slice_set p.counts size count; large = p.large }

abbrev pub with_large : Profile → ℕ → Profile
with_large p count = record { counts = p.counts; large = count }

-- The count in which a request of n bytes is counted: that of its size, or that of the large requests.
abbrev pub count_for : Profile → ℕ → ℕ
count_for p n = if nat_le n largest_counted then slice_index p.counts n else p.large

-- A profile with one more request of n bytes: that one count is higher by 1.
abbrev pub with_one_more : Profile → ℕ → Profile
with_one_more p n = if nat_le n largest_counted then with_count p n (slice_index p.counts n + 1) else with_large p (p.large + 1)

-- The first size from `from` on that is counted, or how many there are if there is none.
pub record IsNextCounted (counts : List ℕ) (from next : ℕ) : Type 0 where
  pub order : from ≤ next
  pub within : from ≤ length counts → next ≤ length counts
  pub passed : (n : ℕ) → from ≤ n → n < next → slice_index counts n ≡ 0
  pub counted : next < length counts → 0 < slice_index counts next

-- The first size from n on that is counted and has no class; the counts are those of the sizes from n on.
unfoldable pub unserved_from : List ℕ → ℕ → List ℕ → Option ℕ
unserved_from classes n [] = None
unserved_from classes n (count ∷ counts) =
    if nat_lt 0 count && is_none (class_for classes n) then Some n else unserved_from classes (suc n) counts

-- The least counted size that has no class.
abbrev pub unserved_of : List ℕ → List ℕ → Option ℕ
unserved_of counts classes = unserved_from classes 0 counts

-- Profiles and rows as arrays.
use Rattle.std.specs.Prelude.{◌≡◌, ℕ, suc, ◌+◌, ◌*◌, ◌<◌, ◌||◌, List, [], ◌∷◌, slice_index, slice_index_or, Option, Some, None, Result, Ok}
use Rattle.std.specs.Prelude.{Err, nat_lt, if◌then◌else◌, ⊤}
use Rattle.class_table.specs.Sizes.{largest_counted}
use Rattle.profile_count.specs.{Counts.{nothing_counted, with_count}, declared.fault.ProfileFault.{ProfileFault}}
use Rattle.profile_count.specs.declared.fault.ProfileFault.TheVariants.{BadLine, NotAscending, CountOutOfRange}
use Rattle.tuner_theory.specs.{Profiles.{Profile, greatest_count}, Rows.{HasShape}}
use Rattle.mte_c.specs.declared.arrays.fault.ArrayError.{ArrayError}
use Rattle.mte_c.specs.declared.arrays.fault.ArrayError.TheVariants.{OutOfMemory, Table, Entry, BadOption, Misuse}

-- ---- profiles

-- What is wrong with a size and its count, if anything is. `next` is the least size that may come.
abbrev pub entry_fault : ℕ → ℕ → ℕ → Option ProfileFault
entry_fault next size count =
    if nat_lt largest_counted size then Some BadLine
    else if nat_lt size next then Some NotAscending
    else if nat_lt count 1 || nat_lt greatest_count count then Some CountOutOfRange
    else None

-- What an entry without a fault leads to; or its index and its fault.
abbrev pub go_on : ℕ → Option ProfileFault → Result Profile (ℕ × ProfileFault) → Result Profile (ℕ × ProfileFault)
go_on index None more = more
go_on index (Some fault) more = Err (index, fault)

-- What sizes and counts spell, after what was counted so far: a profile, or the index of the first faulty entry and its fault. The first of
-- the entries has this index, and `next` is the least size that may come. What one array has more of is no entry.
unfoldable pub profile_from : ℕ → Profile → ℕ → List ℕ → List ℕ → Result Profile (ℕ × ProfileFault)
profile_from index profile next [] counts = Ok profile
profile_from index profile next (size ∷ sizes) [] = Ok profile
profile_from index profile next (size ∷ sizes) (count ∷ counts) =
    go_on index (entry_fault next size count) (profile_from (suc index) (with_count profile size count) (suc size) sizes counts)

-- The profile of these sizes, ascending, each with its count.
abbrev pub profile_of_arrays : List ℕ → List ℕ → Result Profile (ℕ × ProfileFault)
profile_of_arrays sizes counts = profile_from 0 nothing_counted 0 sizes counts

-- What was counted is what the arrays spell, unless memory ran out.
abbrev pub GivesProfile : Result Profile ArrayError → Result Profile (ℕ × ProfileFault) → Type 0
GivesProfile (Ok profile) read = read ≡ Ok profile
GivesProfile (Err OutOfMemory) read = ⊤
GivesProfile (Err (Entry index fault)) read = read ≡ Err (index, fault)
GivesProfile (Err (Table fault)) read = ⊥
GivesProfile (Err BadOption) read = ⊥
GivesProfile (Err Misuse) read = ⊥

-- ---- rows

-- The rows of a certificate, one after the other: so many rows of `places` numbers.
pub record AreRows (limit places : ℕ) (numbers : List ℕ) (rows : List (List ℕ)) : Type 0 where
  pub shape : HasShape rows limit places
  pub each : (k i : ℕ) → k < limit → i < places → slice_index (slice_index_or rows k []) i ≡ slice_index numbers (k * places + i)

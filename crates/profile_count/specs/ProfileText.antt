-- A profile's text: a line `SIZE COUNT` for each counted size, ascending, and then a line `large COUNT` where large requests were counted.
use Rattle.std.specs.{Fmt.{decimal}, Str.{bytes_eq}}
use Rattle.std.specs.Prelude.{Some, None, Result, Ok, Err, nat_lt, nat_le, ◌==◌, if◌then◌else◌, ◌≡◌, ◌≤◌, ℕ, suc, ◌&&◌, Bool, List, [], ◌∷◌}
use Rattle.std.specs.Prelude.{◌++◌, ◌+◌, ◌-◌, codes, Option}
use Rattle.class_table.specs.{NamedLines.{named_line}, Sizes.{largest_counted}}
use Rattle.line_text.specs.{FirstFault.{◌>>=◌}, Lines.{IsTextOf, lines, words, line_of, text_of}, LineSteps.{LineSteps, read_lines}}
use Rattle.line_text.specs.Numbers.{number_of}
use Rattle.tuner_theory.specs.Profiles.{Profile, IsProfile, greatest_count}
use Rattle.profile_count.specs.{Counts.{nothing_counted, with_count, with_large}, declared.entry.Entry.{Entry}}
pub use Rattle.profile_count.specs.declared.reading.ProfileReading.{ProfileReading}
use Rattle.profile_count.specs.declared.{entry.Entry.TheVariants.{Size, Large}, fault.ProfileError.{ProfileError}}
use Rattle.profile_count.specs.declared.fault.{ProfileError.TheVariants.{OutOfMemory, Line}, ProfileFault.{ProfileFault}}
use Rattle.profile_count.specs.declared.fault.ProfileFault.TheVariants.{BadLine, NotAscending, CountOutOfRange}

-- ---- the spelling

abbrev pub size_line : ℕ → ℕ → List ℕ
size_line size count = line_of (decimal size ∷ decimal count ∷ [])

-- The lines of the sizes from one on, with their counts.
unfoldable pub size_lines : ℕ → List ℕ → List (List ℕ)
size_lines size [] = []
size_lines size (count ∷ counts) = if count == 0 then size_lines (suc size) counts else size_line size count ∷ size_lines (suc size) counts

abbrev pub large_lines : ℕ → List (List ℕ)
large_lines count = if count == 0 then [] else named_line (codes "large") (count ∷ []) ∷ []

abbrev pub profile_lines : Profile → List (List ℕ)
profile_lines p = size_lines 0 p.counts ++ large_lines p.large

abbrev pub profile_text : Profile → List ℕ
profile_text p = text_of (profile_lines p)

-- The text spells this profile, its last line with its newline or without.
pub record SpellsProfile (text : List ℕ) (p : Profile) : Type 0 where
  pub profile : IsProfile p
  pub spelled : IsTextOf text (profile_lines p)

-- ---- reading a line

abbrev pub is_count : ℕ → Bool
is_count count = nat_le 1 count && nat_le count greatest_count

-- An entry with this count, where there is one and it is in range.
abbrev pub counted : (ℕ → Entry) → ℕ → Result Entry ProfileFault
counted entry count = if is_count count then Ok (entry count) else Err CountOutOfRange

abbrev pub size_entry : ℕ → ℕ → ℕ → Result Entry ProfileFault
size_entry next size count =
    if nat_lt largest_counted size then Err BadLine
    else if nat_lt size next then Err NotAscending
    else counted (Size size) count

abbrev pub numbers_entry : ℕ → Option ℕ → Option ℕ → Result Entry ProfileFault
numbers_entry next (Some size) (Some count) = size_entry next size count
numbers_entry next (Some size) None = Err BadLine
numbers_entry next None count = Err BadLine

abbrev pub large_entry : Option ℕ → Result Entry ProfileFault
large_entry None = Err BadLine
large_entry (Some count) = counted Large count

-- What a line of these words counts: `next` is the least size that may come, `large` the count of the `large` line, 0 where none came.
-- No line follows that one.
abbrev pub entry_of : ℕ → ℕ → List (List ℕ) → Result Entry ProfileFault
entry_of next large (first ∷ count ∷ []) =
    if nat_lt 0 large then Err BadLine
    else if bytes_eq first (codes "large") then large_entry (number_of count)
    else numbers_entry next (number_of first) (number_of count)
entry_of next large other = Err BadLine

-- What holds of an entry that may come: it is in range, its size not below `next`, and no `large` line came before it.
abbrev pub IsNext : ℕ → ℕ → Entry → Type 0
IsNext next large (Size size count) = (large ≡ 0) × (next ≤ size) × (size ≤ largest_counted) × (1 ≤ count) × (count ≤ greatest_count)
IsNext next large (Large count) = (large ≡ 0) × (1 ≤ count) × (count ≤ greatest_count)

abbrev pub with_entry : ProfileReading → Entry → ProfileReading
with_entry reading (Size size count) = record { profile = with_count reading.profile size count; next = suc size }
with_entry reading (Large count) = record { profile = with_large reading.profile count; next = reading.next }

-- ---- reading line by line

abbrev pub profile_steps : LineSteps ProfileReading Profile ProfileFault
profile_steps = record {
  step = λ reading line. entry_of reading.next reading.profile.large (words line) >>= λ entry. Ok (with_entry reading entry);
  finish = λ reading. Ok reading.profile;
}

-- How many lines may come: each has another size, and one may be of the large requests.
abbrev pub may_come : ProfileReading → ℕ
may_come reading = if nat_lt 0 reading.profile.large then 0 else suc (largest_counted + 1 - reading.next)

-- before the first line
abbrev pub nothing_read : ProfileReading
nothing_read = record { profile = nothing_counted; next = 0 }

abbrev pub profile_of_lines : List (List ℕ) → Result Profile (ℕ × ProfileFault)
profile_of_lines ls = read_lines profile_steps 1 nothing_read ls

-- The profile that a text spells, or its first faulty line's number and fault.
abbrev pub profile_of : List ℕ → Result Profile (ℕ × ProfileFault)
profile_of text = profile_of_lines (lines text)

-- The text is refused as a profile at this line.
abbrev pub IsRefusedAt : ℕ → List ℕ → Type 0
IsRefusedAt n text = (fault : ProfileFault) × (profile_of text ≡ Err (n, fault))

-- What a reader returned is what the definition says, unless memory ran out.
abbrev pub GivesProfile : Result Profile ProfileError → Result Profile (ℕ × ProfileFault) → Type 0
GivesProfile (Ok profile) read = read ≡ Ok profile
GivesProfile (Err OutOfMemory) read = Unit {0}
GivesProfile (Err (Line number fault)) read = read ≡ Err (number, fault)

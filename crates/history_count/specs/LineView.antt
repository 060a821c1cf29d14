-- What the reader of a line leaves.
use Rattle.std.specs.Prelude.{◌≡◌, ◌≢◌, ◌-◌, ◌^◌, ℕ, Bool, List, [], ◌∷◌, length, map, min, Option, Some, None, Result, Ok, Err}
use Rattle.profile_count.specs.declared.fault.ProfileFault.TheVariants.{BadLine}
use Rattle.line_text.specs.Lines.{words}
use Rattle.history_count.specs.{HistoryText.{Entry, entry_of}, declared.fault.HistoryFault.{HistoryFault}, declared.line.Subject.{Subject}}
use Rattle.history_count.specs.declared.fault.HistoryFault.TheVariants.{Counted, WrongLength}

-- The subject that was read, with these counts, is the entry; or the fault is.
abbrev pub GivesEntry : Result Subject HistoryFault → List ℕ → Result Entry HistoryFault → Type 0
GivesEntry (Ok subject) counts read = read ≡ Ok (record { subject = subject; counts = counts })
GivesEntry (Err fault) counts read = read ≡ Err fault

-- The next of the old lines, if there is one, was taken, and what it counts was read.
abbrev pub GivesNextEntry : Option (Result Subject HistoryFault) → List ℕ → ℕ → ℕ → Bool → List (List ℕ) → List (List ℕ) → Type 0
GivesNextEntry None counts count next is_ended old new = old ≡ []
GivesNextEntry (Some read) counts count next is_ended [] new = ⊥
GivesNextEntry (Some read) counts count next is_ended (line ∷ lines) new =
    GivesEntry read counts (entry_of count next is_ended (words line)) × (new ≡ lines)

-- A number as 32 bits hold it: a larger one as the largest.
abbrev pub capped : ℕ → ℕ
capped n = min n (2 ^ 32 - 1)

-- So many numbers are wanted, and these are read. Where there are not so many, or none, that is the fault.
abbrev pub Fills : {A : Type 0} → Result A HistoryFault → List ℕ → ℕ → Option (List ℕ) → Type 0
Fills (Ok _) filled count None = ⊥
Fills (Ok _) filled count (Some numbers) = (length numbers ≡ count) × (filled ≡ map capped numbers)
Fills (Err fault) filled count None = fault ≡ Counted BadLine
Fills (Err fault) filled count (Some numbers) = (fault ≡ WrongLength) × (length numbers ≢ count)

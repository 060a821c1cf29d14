-- A history's text: the line `snapshots T`; a line `SIZE N1 .. NT` for each counted size, ascending; and then a line `large N1 .. NT` where
-- large blocks were counted.
use Rattle.std.specs.{Fmt.{decimal}, List.{list_all, list_any}, Str.{bytes_eq}}
use Rattle.std.specs.Prelude.{◌≡◌, ℕ, zero, suc, ◌+◌, ◌&&◌, Bool, true, false, not, List, [], ◌∷◌, ◌++◌, length, codes, Option, Some, None}
use Rattle.std.specs.Prelude.{Result, Ok, Err, nat_lt, nat_le, ◌==◌, if◌then◌else◌}
use Rattle.class_table.specs.{NamedLines.{named_line, numbers_of}, Sizes.{largest_counted}}
use Rattle.line_text.specs.{FirstFault.{◌>>=◌}, Lines.{IsTextOf, lines, words}, LineSteps.{LineSteps, read_lines}, Numbers.{number_of}}
use Rattle.tuner_theory.specs.{Profiles.{greatest_count}, declared.most_snapshots.TheConstants.{MOST_SNAPSHOTS}}
use Rattle.profile_count.specs.declared.fault.ProfileFault.TheVariants.{BadLine, NotAscending, CountOutOfRange}
use Rattle.history_count.specs.{Histories.{History, IsHistory, counts_of, nothing_counted, with_counts}, declared.line.Subject.{Subject}}
use Rattle.history_count.specs.declared.fault.{HistoryError.{HistoryError}, HistoryError.TheVariants.{OutOfMemory, Line}}
use Rattle.history_count.specs.declared.fault.{HistoryFault.{HistoryFault}, HistoryFault.TheVariants.{BadSnapshots, Counted, WrongLength}}
use Rattle.history_count.specs.declared.line.Subject.TheVariants.{Size, Large}

-- ---- the spelling

-- Some count is not 0.
abbrev pub is_some_counted : List ℕ → Bool
is_some_counted counts = list_any (λ count. nat_lt 0 count) counts

-- The line of a first word and some counts. There is none where all of them are 0.
abbrev pub counts_lines : List ℕ → List ℕ → List (List ℕ)
counts_lines first counts = if is_some_counted counts then named_line first counts ∷ [] else []

-- The lines of so many sizes from one on, with their counts.
unfoldable pub size_lines : List (List ℕ) → ℕ → ℕ → List (List ℕ)
size_lines snapshots size zero = []
size_lines snapshots size (suc more) = counts_lines (decimal size) (counts_of snapshots size) ++ size_lines snapshots (suc size) more

abbrev pub snapshots_line : ℕ → List ℕ
snapshots_line count = named_line (codes "snapshots") (count ∷ [])

abbrev pub history_lines : History → List (List ℕ)
history_lines h =
    snapshots_line (length h.snapshots) ∷ size_lines h.snapshots 0 (largest_counted + 1) ++ counts_lines (codes "large") h.large

-- The text spells this history, its last line with its newline or without.
pub record SpellsHistory (text : List ℕ) (h : History) : Type 0 where
  pub history : IsHistory h
  pub spelled : IsTextOf text (history_lines h)

-- ---- reading the first line

abbrev pub is_snapshot_count : ℕ → Bool
is_snapshot_count count = nat_le 1 count && nat_le count MOST_SNAPSHOTS

abbrev pub snapshot_count : Option ℕ → Option ℕ
snapshot_count None = None
snapshot_count (Some count) = if is_snapshot_count count then Some count else None

-- How many snapshots there are, by the words of the first line.
abbrev pub snapshots_of : List (List ℕ) → Option ℕ
snapshots_of (first ∷ count ∷ []) = if bytes_eq first (codes "snapshots") then snapshot_count (number_of count) else None
snapshots_of other = None

-- ---- reading a later line

-- What was counted so far, the least size that may come next, and whether the `large` line came.
pub record Reading : Type 0 where
  pub history : History
  pub next : ℕ
  pub is_ended : Bool

-- What a line counts, and how often at each snapshot.
pub record Entry : Type 0 where
  pub subject : Subject
  pub counts : List ℕ

abbrev pub size_of : Option ℕ → Option Subject
size_of None = None
size_of (Some size) = if nat_le size largest_counted then Some (Size size) else None

-- What a line counts, by its first word.
abbrev pub subject_of : List ℕ → Option Subject
subject_of first = if bytes_eq first (codes "large") then Some Large else size_of (number_of first)

-- The size is not below the next one.
abbrev pub is_in_order : ℕ → Subject → Bool
is_in_order next (Size size) = nat_le next size
is_in_order next Large = true

-- No count is too great.
abbrev pub are_few : List ℕ → Bool
are_few counts = list_all (λ count. nat_le count greatest_count) counts

-- Counts that a line may have: none too great, and one of them not 0.
abbrev pub are_in_range : List ℕ → Bool
are_in_range counts = are_few counts && is_some_counted counts

-- The entry with these counts, if they are as many as there are snapshots; or its first fault.
abbrev pub entry_with : ℕ → ℕ → Subject → List ℕ → Result Entry HistoryFault
entry_with count next subject counts =
    if not (length counts == count) then Err WrongLength
    else if not (is_in_order next subject) then Err (Counted NotAscending)
    else if not (are_in_range counts) then Err (Counted CountOutOfRange)
    else Ok (record { subject = subject; counts = counts })

abbrev pub entry_with_numbers : ℕ → ℕ → Option Subject → Option (List ℕ) → Result Entry HistoryFault
entry_with_numbers count next (Some subject) (Some counts) = entry_with count next subject counts
entry_with_numbers count next subject counts = Err (Counted BadLine)

-- What a line of these words counts, where there are so many snapshots: `next` is the least size that may come. No line follows the `large`
-- line.
abbrev pub entry_of : ℕ → ℕ → Bool → List (List ℕ) → Result Entry HistoryFault
entry_of count next is_ended [] = Err (Counted BadLine)
entry_of count next is_ended (first ∷ ws) =
    if is_ended then Err (Counted BadLine) else entry_with_numbers count next (subject_of first) (numbers_of ws)

-- What a reading makes of its next line.
abbrev pub next_entry : Reading → List ℕ → Result Entry HistoryFault
next_entry reading line = entry_of (length reading.history.snapshots) reading.next reading.is_ended (words line)

abbrev pub with_subject : Reading → Subject → List ℕ → Reading
with_subject reading (Size size) counts = record {
  history = record { snapshots = with_counts reading.history.snapshots size counts; large = reading.history.large };
  next = suc size;
  is_ended = reading.is_ended;
}
with_subject reading Large counts = record {
  history = record { snapshots = reading.history.snapshots; large = counts };
  next = reading.next;
  is_ended = true;
}

abbrev pub with_entry : Reading → Entry → Reading
with_entry reading entry = with_subject reading entry.subject entry.counts

-- ---- reading line by line

abbrev pub history_steps : LineSteps Reading History HistoryFault
history_steps = record {
  step = λ reading line. next_entry reading line >>= λ entry. Ok (with_entry reading entry);
  finish = λ reading. Ok reading.history;
}

-- What the lines spell, after what was read so far: a history, or the number of the first faulty line and its fault. The first of the lines
-- has this number.
abbrev pub history_from : ℕ → Reading → List (List ℕ) → Result History (ℕ × HistoryFault)
history_from number reading ls = read_lines history_steps number reading ls

-- before the second line
abbrev pub first_reading : ℕ → Reading
first_reading count = record { history = nothing_counted count; next = 0; is_ended = false }

abbrev pub history_after : Option ℕ → List (List ℕ) → Result History (ℕ × HistoryFault)
history_after None ls = Err (1, BadSnapshots)
history_after (Some count) ls = history_from 2 (first_reading count) ls

abbrev pub history_of_lines : List (List ℕ) → Result History (ℕ × HistoryFault)
history_of_lines [] = Err (1, BadSnapshots)
history_of_lines (line ∷ ls) = history_after (snapshots_of (words line)) ls

-- The history that a text spells, or its first faulty line's number and fault.
abbrev pub history_of : List ℕ → Result History (ℕ × HistoryFault)
history_of text = history_of_lines (lines text)

-- The text is refused as a history at this line.
abbrev pub IsRefusedAt : ℕ → List ℕ → Type 0
IsRefusedAt n text = (fault : HistoryFault) × (history_of text ≡ Err (n, fault))

-- What a reader returned is what the definition says, unless memory ran out.
abbrev pub GivesHistory : Result History HistoryError → Result History (ℕ × HistoryFault) → Type 0
GivesHistory (Ok history) read = read ≡ Ok history
GivesHistory (Err OutOfMemory) read = Unit {0}
GivesHistory (Err (Line number fault)) read = read ≡ Err (number, fault)

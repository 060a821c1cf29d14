-- Reading a history line by line.
use Rattle.std.proofs.Common.{◌≡◌, ℕ, ◌+◌, List, [], ◌∷◌, length, Some, Ok, Err, refl, arith}
use Rattle.line_text.proofs.LawLemmas.{line_faulty as lines_faulty, line_read as lines_read, no_line as no_lines}
use Rattle.line_text.specs.Lines.{lines, words}
use Rattle.history_count.specs.{declared.fault.HistoryFault.{HistoryFault}, declared.line.Subject.{Subject}}
use Rattle.history_count.specs.HistoryText.{Entry, Reading, entry_of, first_reading, history_from, history_of, next_entry, snapshots_of}
use Rattle.history_count.specs.HistoryText.{history_steps, with_entry}

-- ---- the first line

pub first_line_read : (text line : List ℕ) (rest : List (List ℕ)) (count : ℕ) → lines text ≡ line ∷ rest
    → Some count ≡ snapshots_of (words line) → history_of text ≡ history_from 2 (first_reading count) rest
first_line_read text line rest count parts is = rw (parts, ← is) refl

-- ---- a later line

pub line_read : (number : ℕ) (r : Reading) (rest new : List (List ℕ)) (line : List ℕ) (entry : Entry) → rest ≡ line ∷ new
    → next_entry r line ≡ Ok entry → history_from number r rest ≡ history_from (number + 1) (with_entry r entry) new
line_read number r rest new line entry parts is = rw parts (lines_read history_steps number r (with_entry r entry) line new (rw is refl))

pub line_faulty : (number : ℕ) (r : Reading) (rest new : List (List ℕ)) (line : List ℕ) (fault : HistoryFault) → rest ≡ line ∷ new
    → next_entry r line ≡ Err fault → history_from number r rest ≡ Err (number, fault)
line_faulty number r rest new line fault parts is = rw parts (lines_faulty history_steps number r line new fault (rw is refl))

pub no_line : (number : ℕ) (r : Reading) (rest : List (List ℕ)) → rest ≡ [] → history_from number r rest ≡ Ok r.history
no_line number r rest none = rw none (no_lines history_steps number r r.history refl)

-- The entry that was read of a line, where there are as many places for its counts as snapshots.
pub entry_read : (r : Reading) (line : List ℕ) (places : ℕ) (given subject : Subject) (counts : List ℕ)
    → places ≡ length r.history.snapshots
    → entry_of places r.next r.is_ended (words line) ≡ Ok (record { subject = given; counts = counts })
    → given ≡ subject → next_entry r line ≡ Ok (record { subject = subject; counts = counts })
entry_read r line places given subject counts size read is = grind arith

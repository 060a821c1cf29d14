-- From the spelling of a history to the history that is read: size by size, the counts so far are the history's.
use Rattle.std.proofs.Common.{◌≡◌, ℕ, zero, suc, ◌+◌, ◌<◌, ◌≤◌, ◌^◌, Bool, true, false, List, [], ◌∷◌, ◌++◌, length, Some, Ok, codes, refl}
use Rattle.std.proofs.{Common.{sym, ap, ◌∙◌, arith, All}, lemmas.Bool.{le-leb}, lemmas.List.Elements.{All-append, All-cons, All-nil}}
use Rattle.class_table.{proofs.LawLemmas.{named_line_is_full, plain_name, words_of_named_line}, specs.Sizes.{largest_counted}}
use Rattle.line_text.{proofs.LawLemmas.{text_laws as laws}, specs.Lines.{IsFullLine, lines, words}}
use Rattle.tuner_theory.specs.{Profiles.{AreCounts}, declared.most_snapshots.TheConstants.{MOST_SNAPSHOTS}}
use Rattle.history_count.proofs.Columns.{counts_of-length, counts_of-other, counts_of-same, same_snapshots, with_counts-length}
use Rattle.history_count.proofs.{EntryLines.{IsNext, entry_line, entry_line-full, entry_of-line}, Peaks.{counts-small, empty-length}}
use Rattle.history_count.{proofs.LineByLine.{first_line_read, line_read, no_line}, specs.Histories.{History, IsHistory, counts_of}}
use Rattle.history_count.proofs.OpenReadings.{IsOpen, is_open-first, is_open-size, size_entry}
use Rattle.history_count.proofs.SizeLines.{counts_lines-none, counts_lines-some, same_nothing, size_lines-counted, size_lines-zero}
use Rattle.history_count.{proofs.SizeLines.{zeros-none}, specs.declared.line.Subject.TheVariants.{Large}}
use Rattle.history_count.specs.HistoryText.{Entry, Reading, SpellsHistory, counts_lines, first_reading, history_from, history_lines}
use Rattle.history_count.specs.HistoryText.{history_of, is_some_counted, size_lines, snapshots_line, snapshots_of, with_entry}
use Rattle.profile_count.proofs.LawLemmas.{length-zeros}

-- ---- lines are read one by one

-- an entry's line is read, and then the others
history_from-entry_line : (number : ℕ) (r : Reading) (entry : Entry) (ls : List (List ℕ)) → r.is_ended ≡ false
    → IsNext (length r.history.snapshots) r.next entry
    → history_from number r (entry_line entry ∷ ls) ≡ history_from (number + 1) (with_entry r entry) ls
history_from-entry_line number r entry ls open_still next =
    line_read number r (entry_line entry ∷ ls) ls (entry_line entry) entry refl
    (rw open_still (entry_of-line (length r.history.snapshots) r.next entry next))

abbrev large_entry : List ℕ → Entry
large_entry counts = record { subject = Large; counts = counts }

-- the `large` line is read last, where there is one
history_from-large_lines : (number : ℕ) (r : Reading) (h : History) → IsOpen r → IsHistory h → r.history.snapshots ≡ h.snapshots
    → history_from number r (counts_lines (codes "large") h.large) ≡ Ok h
history_from-large_lines number r h is_open is_history same = go (is_some_counted h.large) refl
  where
    go : (counted : Bool) → is_some_counted h.large ≡ counted → history_from number r (counts_lines (codes "large") h.large) ≡ Ok h
    go false none =
        let large : r.history.large ≡ h.large = grind (arith, same_nothing, length-zeros, zeros-none) in
        grind (arith, counts_lines-none, no_line)
    go true some =
        let next : IsNext (length r.history.snapshots) r.next (large_entry h.large) = grind arith in
        rw (counts_lines-some (codes "large") h.large some)
        (history_from-entry_line number r (large_entry h.large) [] is_open.open_still next
        ∙ no_line (number + 1) (with_entry r (large_entry h.large)) [] refl
        ∙ ap (λ (s : List (List ℕ)). Ok (record { snapshots = s; large = h.large })) same)

-- The lines from a size on are read as the history whose counts of the sizes below were read.
history_from-size_lines : (more size number : ℕ) (r : Reading) (h : History) → IsOpen r → IsHistory h
    → length r.history.snapshots ≡ length h.snapshots → size + more ≡ largest_counted + 1 → r.next ≤ size
    → ((k : ℕ) → k < size → counts_of r.history.snapshots k ≡ counts_of h.snapshots k)
    → history_from number r (size_lines h.snapshots size more ++ counts_lines (codes "large") h.large) ≡ Ok h
unfolding size_lines
history_from-size_lines zero size number r h is_open is_history count all next same = grind (arith, history_from-large_lines, same_snapshots)
history_from-size_lines (suc more) size number r h is_open is_history count all next same =
    go (history_from-size_lines more) (is_some_counted (counts_of h.snapshots size)) refl
  where
    go : ((size number : ℕ) (r : Reading) (h : History) → IsOpen r → IsHistory h
        → length r.history.snapshots ≡ length h.snapshots → size + more ≡ largest_counted + 1 → r.next ≤ size
        → ((k : ℕ) → k < size → counts_of r.history.snapshots k ≡ counts_of h.snapshots k)
        → history_from number r (size_lines h.snapshots size more ++ counts_lines (codes "large") h.large) ≡ Ok h)
        → (counted : Bool) → is_some_counted (counts_of h.snapshots size) ≡ counted
        → history_from number r (size_lines h.snapshots size (suc more) ++ counts_lines (codes "large") h.large) ≡ Ok h
    go others false none = grind (arith, same_nothing, counts_of-length)
    go others true some =
        let entry = size_entry size (counts_of h.snapshots size) in
        let may_come : IsNext (length r.history.snapshots) r.next entry = grind (arith, counts_of-length, le-leb, counts-small h.snapshots size is_history.snapshots.counts) in
        rw (size_lines-counted h.snapshots size more some)
        (history_from-entry_line number r entry (size_lines h.snapshots (suc size) more ++ counts_lines (codes "large") h.large)
        is_open.open_still may_come
        ∙ others (suc size) (number + 1) (with_entry r entry) h (is_open-size r size (counts_of h.snapshots size) is_open may_come) is_history
        (with_counts-length r.history.snapshots size (counts_of h.snapshots size) ∙ count) (omega arith) (omega arith) (λ k below. grind (arith, counts_of-same, counts_of-other, counts_of-length)))

-- ---- the lines of a history are lines, and not empty

size_lines-full : (snapshots : List (List ℕ)) (more size : ℕ) → size + more ≤ largest_counted + 1 → All AreCounts snapshots
    → All IsFullLine (size_lines snapshots size more)
unfolding size_lines
size_lines-full snapshots zero size within are = All-nil IsFullLine
size_lines-full snapshots (suc more) size within are = go (is_some_counted (counts_of snapshots size)) refl (size_lines-full snapshots more (suc size) (omega arith) are)
  where
    go : (counted : Bool) → is_some_counted (counts_of snapshots size) ≡ counted → All IsFullLine (size_lines snapshots (suc size) more) → All IsFullLine (size_lines snapshots size (suc more))
    go false none rest = rw (size_lines-zero snapshots size more none) rest
    go true some rest =
        let next : IsNext (length snapshots) 0 (size_entry size (counts_of snapshots size)) =
        grind (arith, counts_of-length, le-leb, counts-small snapshots size are) in
        rw (size_lines-counted snapshots size more some) (All-cons IsFullLine _ _ (entry_line-full (length snapshots) 0 (size_entry size (counts_of snapshots size)) next) rest)

large_lines-full : (h : History) → IsHistory h → All IsFullLine (counts_lines (codes "large") h.large)
large_lines-full h is =
    grind (arith, counts_lines-none, counts_lines-some, All-cons IsFullLine, All-nil IsFullLine, entry_line-full (length h.snapshots) 0 (large_entry h.large))

-- ---- the first line

module _ (count : ℕ) (some : 1 ≤ count) (few : count ≤ MOST_SNAPSHOTS) where
  fits : count < 2 ^ 64
  fits = omega arith

  small_count : All (λ n. n < 2 ^ 64) (count ∷ [])
  small_count = All-cons (λ n. n < 2 ^ 64) count [] fits (All-nil (λ n. n < 2 ^ 64))

  pub snapshots_line-full : IsFullLine (snapshots_line count)
  snapshots_line-full = named_line_is_full (codes "snapshots") (count ∷ []) (plain_name (codes "snapshots") refl (omega arith)) small_count

  pub snapshots_of-line : snapshots_of (words (snapshots_line count)) ≡ Some count
  snapshots_of-line =
      rw (
        words_of_named_line (codes "snapshots") (count ∷ []) (plain_name (codes "snapshots") refl (omega arith)) small_count,
        laws.read count fits,
        le-leb 1 count some,
        le-leb count MOST_SNAPSHOTS few,
      ) refl

-- The text of a history is read as that history.
pub spelled_history_is_read : (text : List ℕ) (h : History) → SpellsHistory text h → history_of text ≡ Ok h
spelled_history_is_read text h spells =
    let is = spells.history in
    let count = length h.snapshots in
    let sizes = size_lines-full h.snapshots (largest_counted + 1) 0 (omega arith) is.snapshots.counts in
    let others = size_lines h.snapshots 0 (largest_counted + 1) ++ counts_lines (codes "large") h.large in
    let full = All-append IsFullLine (size_lines h.snapshots 0 (largest_counted + 1)) (counts_lines (codes "large") h.large) sizes
    (large_lines-full h is) in
    let all = All-cons IsFullLine (snapshots_line count) others (snapshots_line-full count is.snapshots.some is.snapshots.few) full in
    let are : lines text ≡ history_lines h = laws.full_lines (history_lines h) text all spells.spelled in
    first_line_read text (snapshots_line count) others count are (sym (snapshots_of-line count is.snapshots.some is.snapshots.few))
    ∙ history_from-size_lines (largest_counted + 1) 0 2 (first_reading count) h (is_open-first count is.snapshots.some is.snapshots.few) is
    (empty-length count) refl (omega arith) (λ k below. absurd (omega arith))

-- From a text that is read as a history to its spelling: line by line, the rest spells what is counted from there on.
use Rattle.std.proofs.Common.{◌≡◌, ℕ, suc, ◌+◌, ◌-◌, ◌<◌, ◌≤◌, true, List, [], ◌∷◌, ◌++◌, length, Option, Some, None, Result, Ok, Err}
use Rattle.std.proofs.{Common.{codes, leb, refl, subst, sym, ap, ◌∙◌, arith}, lemmas.Bool.{and_parts, false≢true, leb-true}}
use Rattle.std.proofs.lemmas.Slice.Eq.{bytes_eq-Decides}
use Rattle.class_table.specs.Sizes.{largest_counted}
use Rattle.line_text.{proofs.LawLemmas.{read_has, text_laws as laws}, specs.Lines.{IsTextOf, lines, words}}
use Rattle.tuner_theory.specs.declared.most_snapshots.TheConstants.{MOST_SNAPSHOTS}
use Rattle.history_count.proofs.{Columns.{counts_of-other, counts_of-same, with_counts-length}, Peaks.{empty-length, zeros-small}}
use Rattle.history_count.{proofs.EntryLines.{IsNext, entry_line, entry_line-read}, specs.Histories.{History, IsHistory, counts_of}}
use Rattle.history_count.{proofs.OpenReadings.{IsOpen, is_open-first, is_open-size, size_entry}, specs.declared.line.Subject.{Subject}}
use Rattle.history_count.proofs.SizeLines.{counts_lines-some, size_lines-counted, size_lines-none, size_lines-passed}
use Rattle.history_count.{proofs.SizeLines.{size_lines_from, zeros-none}, specs.declared.fault.HistoryFault.{HistoryFault}}
use Rattle.history_count.specs.HistoryText.{Entry, Reading, SpellsHistory, counts_lines, first_reading, history_after, history_steps}
use Rattle.history_count.specs.HistoryText.{history_lines, history_of, history_of_lines, is_some_counted, next_entry, snapshots_line}
use Rattle.history_count.specs.{HistoryText.{snapshots_of, with_entry}, declared.line.Subject.TheVariants.{Large, Size}}
use Rattle.profile_count.proofs.LawLemmas.{length-zeros}

-- After a reading, lines spell a history: what it counts from the next size on, and its large blocks. Below that size it counts what was
-- read.
record SpellsRest (r : Reading) (ls : List (List ℕ)) (h : History) : Type 0 where
  is_history : IsHistory h
  size : length h.snapshots ≡ length r.history.snapshots
  kept : (k : ℕ) → k < r.next → counts_of h.snapshots k ≡ counts_of r.history.snapshots k
  spelled : ls ≡ size_lines_from h.snapshots r.next ++ counts_lines (codes "large") h.large

-- ---- one line in front of others that spell the rest

no_size_lines : (r : Reading) → IsOpen r → size_lines_from r.history.snapshots r.next ≡ []
no_size_lines r is_open = size_lines-none r.history.snapshots r.next (largest_counted + 1 - r.next) is_open.none

abbrev large_entry : List ℕ → Entry
large_entry counts = record { subject = Large; counts = counts }

-- a `large` line alone spells its counts
spells_rest-large : (r : Reading) (counts : List ℕ) → IsOpen r → IsNext (length r.history.snapshots) r.next (large_entry counts)
    → SpellsRest r (entry_line (large_entry counts) ∷ []) (with_entry r (large_entry counts)).history
spells_rest-large r counts is_open next = grind (arith, no_size_lines, counts_lines-some)

-- the line of a size spells its counts, and that the sizes before it are not counted
spells_rest-size : (r : Reading) (size : ℕ) (counts : List ℕ) (ls : List (List ℕ)) (h : History) → IsOpen r
    → IsNext (length r.history.snapshots) r.next (size_entry size counts) → SpellsRest (with_entry r (size_entry size counts)) ls h
    → SpellsRest r (entry_line (size_entry size counts) ∷ ls) h
spells_rest-size r size counts ls h is_open next rest =
    let before = r.history.snapshots in
    let order = leb-true r.next size next.good.order in
    let here : counts_of h.snapshots size ≡ counts =
    rest.kept size (omega arith) ∙ counts_of-same before size counts is_open.snapshots.counts next.subject next.good.size in
    let kept = λ (k : ℕ) (below : k < size). rest.kept k (omega arith) ∙ counts_of-other before size k counts (λ e. omega arith) in
    let passed = size_lines-passed h.snapshots r.next size order (omega (arith, next.subject))
    (λ k from below. ap is_some_counted (kept k below) ∙ is_open.none k from) in
    grind (arith, size_lines-counted h.snapshots size (largest_counted + 1 - suc size), with_counts-length)

-- ---- all lines

-- What lines that are read spell: the rest of a history, and no line where a `large` line came before.
record IsReading (r : Reading) (ls : List (List ℕ)) (h : History) : Type 0 where
  is_rest : IsOpen r → SpellsRest r ls h
  none : r.is_ended ≡ true → (ls ≡ []) × (r.history ≡ h)

no_line_spells : (r : Reading) (h : History) → history_steps.finish r ≡ Ok h → IsReading r [] h
no_line_spells r h is = grind (arith, length-zeros, zeros-small, no_size_lines, zeros-none)

line_spells : (r next : Reading) (line : List ℕ) (ls : List (List ℕ)) (h : History) → history_steps.step r line ≡ Ok next
    → IsReading next ls h → IsReading r (line ∷ ls) h
line_spells r next line ls h is rest = go (next_entry r line) refl
  where
    by_subject : (subject : Subject) (counts : List ℕ) → next_entry r line ≡ Ok (record { subject = subject; counts = counts })
        → IsReading (with_entry r (record { subject = subject; counts = counts })) ls h → IsReading r (line ∷ ls) h
    by_subject (Size size) counts e after =
        let read = entry_line-read (length r.history.snapshots) r.next r.is_ended line (size_entry size counts) e in
        record {
          is_rest = λ is_open. rw read.spelled
              (spells_rest-size r size counts ls h is_open read.next_is (after.is_rest (is_open-size r size counts is_open read.next_is)));
          none = λ ended. absurd (false≢true (sym read.open_still ∙ ended));
        }
    by_subject Large counts e after =
        let read = entry_line-read (length r.history.snapshots) r.next r.is_ended line (large_entry counts) e in
        let none = after.none refl in
        record {
          is_rest = λ is_open. rw (read.spelled, none.0, ← none.1) (spells_rest-large r counts is_open read.next_is);
          none = λ ended. absurd (false≢true (sym read.open_still ∙ ended));
        }

    go : (read : Result Entry HistoryFault) → next_entry r line ≡ read → IsReading r (line ∷ ls) h
    go (Err fault) e = let none = rw e at is in absurd cc
    go (Ok entry) e = grind (arith, by_subject)

-- ---- the first line

-- A line that is read as a number of snapshots is its line.
pub record IsReadCount (line : List ℕ) (count : ℕ) : Type 0 where
  pub some : 1 ≤ count
  pub few : count ≤ MOST_SNAPSHOTS
  pub spelled : line ≡ snapshots_line count

same_count : (a b : ℕ) → Some a ≡ Some b → a ≡ b
same_count a b e = cc

pub snapshots-read : (line : List ℕ) (count : ℕ) → snapshots_of (words line) ≡ Some count → IsReadCount line count
snapshots-read line count e = grind (arith, same_count, and_parts, leb, leb-true, laws, bytes_eq-Decides)

-- What is read as a history is its text.
pub history_is_spelled : (text : List ℕ) (h : History) → history_of text ≡ Ok h → SpellsHistory text h
history_is_spelled text h e = go (lines text) refl e
  where
    after : (line : List ℕ) (ls : List (List ℕ)) → lines text ≡ line ∷ ls → (o : Option ℕ) → snapshots_of (words line) ≡ o
        → history_after o ls ≡ Ok h → SpellsHistory text h
    after line ls parts None is e = absurd cc
    after line ls parts (Some count) is e =
        let read = snapshots-read line count is in
        let reading = read_has history_steps IsReading no_line_spells line_spells ls 2 (first_reading count) h e in
        let rest = reading.is_rest (is_open-first count read.some read.few) in
        let size : count ≡ length h.snapshots = omega (arith, rest.size, empty-length count) in
        let are : lines text ≡ history_lines h = parts ∙ rw (read.spelled, rest.spelled, ← size) refl in
        record { history = rest.is_history; spelled = subst (IsTextOf text) are (laws.text text) }

    go : (ls : List (List ℕ)) → lines text ≡ ls → history_of_lines ls ≡ Ok h → SpellsHistory text h
    go [] parts e = absurd cc
    go (line ∷ ls) parts e = after line ls parts (snapshots_of (words line)) refl e

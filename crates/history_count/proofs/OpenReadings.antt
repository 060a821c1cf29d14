-- A reading of which no `large` line was read: nothing is counted from the next size on.
use Rattle.std.proofs.{Common.{◌≡◌, ℕ, ◌+◌, ◌≤◌, false, List, length, arith}, lemmas.Bool.{leb-true}}
use Rattle.profile_count.specs.Counts.{zeros}
use Rattle.tuner_theory.specs.{Histories.{AreSnapshots}, declared.most_snapshots.TheConstants.{MOST_SNAPSHOTS}}
use Rattle.class_table.specs.Sizes.{largest_counted}
use Rattle.history_count.proofs.{Columns.{counts_of-other, with_counts-counts, with_counts-length}, EntryLines.{IsNext}}
use Rattle.history_count.{proofs.Peaks.{empty-length, empty-nothing, empty-are}, specs.Histories.{counts_of}}
use Rattle.history_count.specs.HistoryText.{Entry, Reading, first_reading, is_some_counted, with_entry}
use Rattle.history_count.specs.declared.line.Subject.TheVariants.{Size}

pub record IsOpen (r : Reading) : Type 0 where
  pub snapshots : AreSnapshots r.history.snapshots
  pub large : r.history.large ≡ zeros (length r.history.snapshots)
  pub open_still : r.is_ended ≡ false
  pub within : r.next ≤ largest_counted + 1
  pub none : (k : ℕ) → r.next ≤ k → is_some_counted (counts_of r.history.snapshots k) ≡ false

pub is_open-first : (count : ℕ) → 1 ≤ count → count ≤ MOST_SNAPSHOTS → IsOpen (first_reading count)
is_open-first count some few = grind (arith, empty-are, empty-length, empty-nothing)

abbrev pub size_entry : ℕ → List ℕ → Entry
size_entry size counts = record { subject = Size size; counts = counts }

-- A reading stays open after the line of a size.
pub is_open-size : (r : Reading) (size : ℕ) (counts : List ℕ) → IsOpen r
    → IsNext (length r.history.snapshots) r.next (size_entry size counts) → IsOpen (with_entry r (size_entry size counts))
is_open-size r size counts is_open next = grind (arith, with_counts-length, leb-true, with_counts-counts, counts_of-other)

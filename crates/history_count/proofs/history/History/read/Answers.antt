use Rattle.std.proofs.Common.{◌≡◌, List, ℕ, Ok, Result, refl, sym, ap, ◌∙◌}
use Rattle.history_count.specs.{Histories.{History}, HistoryText.{history_of_lines}}
use Rattle.history_count.proofs.history.History.read.Goals as goal

-- the history of these snapshots and counts
is-read : {E : Type 0} (read : Result History E) (h : History) (snapshots : List (List ℕ)) (large : List ℕ) → h.snapshots ≡ snapshots
    → h.large ≡ large → read ≡ Ok (record { snapshots = snapshots; large = large }) → read ≡ Ok h
is-read read h snapshots large is also e = e ∙ rw (← is, ← also) refl

pub new-requires-2-clause-lines : goal.new-requires-2-clause-lines
new-requires-2-clause-lines c =
    let read = c.in_ok-large.ensures.read in
    rw (← read.width) (c.in_ok-close.ensures read.snapshots read.next read.taken).holds

pub returns : goal.returns
returns c =
    let read = c.in_ok-large.ensures.read in
    let closed = c.in_ok-close.ensures read.snapshots read.next read.taken in
    is-read _ c.new-2.result read.snapshots c.in_ok-large.large.items (c.new-2.ensures.snapshots ∙ sym closed.are) c.new-2.ensures.large
    (ap history_of_lines (sym c.lines_in-lines.ensures) ∙ c.in_ok-count.ensures.read ∙ read.is)

use Rattle.std.{proofs.Common.{◌≡◌, ℕ, List, length, map, Option, Some}, specs.Prelude.{Result}}
use Rattle.history_count.{proofs.Entries.{IsFilled, filled-ok}, specs.HistoryText.{entry_with, entry_with_numbers}}
use Rattle.history_count.specs.{LineView.{GivesEntry, capped}, declared.fault.HistoryFault.{HistoryFault}, declared.line.Subject.{Subject}}
use Rattle.history_count.proofs.line.entry_after.Goals as goal

-- the entry of a line by the counts that were filled in
filled-entry : (result : Result Subject HistoryFault) (filled : List ℕ) (o : Option (List ℕ)) (count next : ℕ) (subject : Subject)
    → IsFilled o count filled
    → ((numbers : List ℕ) → filled ≡ map capped numbers → GivesEntry result filled (entry_with (length numbers) next subject numbers))
    → GivesEntry result filled (entry_with_numbers count next (Some subject) o)
filled-entry result filled o count next subject is gives = rw (is.read, ← is.size) (gives is.numbers is.is)

pub returns : goal.returns
returns c =
    rw c.in-Some.is (filled-entry c.check_entry.result c.fill.new.counts _ _ c.args.next c.in-Some.subject (filled-ok _ _ _ _ c.in_ok-fill.ensures)
    c.check_entry.ensures)

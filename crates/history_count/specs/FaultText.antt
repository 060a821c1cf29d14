-- How a fault of a history's line is shown: by its code and its name.
use Rattle.std.specs.Prelude.{ℕ, List, codes}
use Rattle.profile_count.specs.FaultText.{shown_profile_fault}
use Rattle.history_count.specs.declared.fault.{HistoryFault.{HistoryFault}, HistoryFault.TheVariants.{BadSnapshots, Counted, WrongLength}}

abbrev pub shown_history_fault : HistoryFault → List ℕ
shown_history_fault BadSnapshots = codes "34 BadSnapshots"
shown_history_fault WrongLength = codes "35 WrongLength"
shown_history_fault (Counted fault) = shown_profile_fault fault

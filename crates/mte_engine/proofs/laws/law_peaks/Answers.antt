use Rattle.mte_engine.proofs.PeakLaws.{most_freed_is_greatest, most_live_is_greatest}
use Rattle.mte_engine.proofs.laws.law_peaks.Goals as goal

pub returns-clause-live : goal.returns-clause-live
returns-clause-live c events classes timeline legal = most_live_is_greatest events classes timeline legal

pub returns-clause-freed : goal.returns-clause-freed
returns-clause-freed c events classes timeline legal = most_freed_is_greatest events classes timeline legal

use Rattle.std.proofs.{Common.{arith}, lemmas.List.{drop_all}}
use Rattle.mte_engine.{proofs.Reporting.{reported_all}}
use Rattle.mte_engine.proofs.report.fill.Goals as goal

pub returns-then-is_whole-clause-report : goal.returns-then-is_whole-clause-report
returns-then-is_whole-clause-report c = grind (arith, drop_all, reported_all)

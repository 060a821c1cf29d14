use Rattle.std.proofs.Common.{rules}
use Rattle.potential_check.specs.Certificates.SheetView.{sheet_of}
use Rattle.tuner_theory.proofs.LawLemmas.{optimal-best_by}
use Rattle.potential_check.proofs.checker.verdict_on.Goals as goal

pub returns-clause-verdict : goal.returns-clause-verdict
returns-clause-verdict g c = search rules

pub returns-clause-best : goal.returns-clause-best
returns-clause-best g c =
    let m = g.M.MeasuredLoad.measure c.args.measured.now in
    λ _. optimal-best_by m (sheet_of c.args.sheet.now) (g.met.M.MeasuredLoad.sums c.args.measured.now)
    c.in_default.ensures.legal (returns-clause-verdict g c)

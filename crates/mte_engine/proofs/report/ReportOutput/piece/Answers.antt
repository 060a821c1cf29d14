use Rattle.std.proofs.Common.{◌-◌, ◌∙◌, List, ℕ, take, drop, refl, ap}
use Rattle.mte_engine.{proofs.Reporting.{part_ready}, specs.ReportFrom.{report_unless}}
use Rattle.mte_engine.proofs.report.ReportOutput.piece.Goals as goal

pub returns-clause-ready : goal.returns-clause-ready
returns-clause-ready c =
    let r = c.args.self.now in
    ap (λ (items : List ℕ). take (r.filled - r.written) (drop r.written items)) c.deref.ensures.value
    ∙ part_ready r.buffer.items r.written r.filled r.in_filled

pub returns-clause-first : goal.returns-clause-first
returns-clause-first c = let r = c.args.self.now in (report_unless r.is_whole r.replay r.reader.events, refl)

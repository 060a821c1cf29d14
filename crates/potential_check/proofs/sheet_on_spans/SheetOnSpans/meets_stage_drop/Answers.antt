use Rattle.potential_check.{proofs.RowConditions.{drops-met}, specs.Certificates.SheetView.{sheet_of}}
use mathlib.Core.Logic.Iff
use Rattle.potential_check.proofs.sheet_on_spans.SheetOnSpans.meets_stage_drop.Goals as goal

pub returns : goal.returns
returns c =
    rw (← c.self.view_is)
    (Iff.trans c.all_drops_hold.ensures
    (drops-met (sheet_of c.self.inside.sheet.now) c.self.inside.spans.now c.self.invariant (rw (← c.self.view_is) at c.requires)))

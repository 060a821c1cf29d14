use Rattle.potential_check.{proofs.RowConditions.{edges-met, rows-bounded}, specs.Certificates.SheetView.{sheet_of}}
use mathlib.Core.Logic.Iff
use Rattle.potential_check.proofs.sheet_on_spans.SheetOnSpans.meets_edge.Goals as goal

pub all_edges_hold-requires : goal.all_edges_hold-requires
all_edges_hold-requires c =
    rows-bounded (sheet_of c.self.inside.sheet.now) c.self.inside.spans.now c.self.invariant (rw (← c.self.view_is) at c.requires.shape)
    (rw (← c.self.view_is) at c.requires.last) (rw (← c.self.view_is) at c.requires.drop)

pub returns : goal.returns
returns c =
    rw (← c.self.view_is)
    (Iff.trans c.all_edges_hold.ensures
    (edges-met (sheet_of c.self.inside.sheet.now) c.self.inside.spans.now c.self.invariant (rw (← c.self.view_is) at c.requires.shape)))

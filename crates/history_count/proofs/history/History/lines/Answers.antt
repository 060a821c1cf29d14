use Rattle.std.proofs.Common.{length}
use Rattle.tuner_theory.specs.Lists.{lists_of}
use Rattle.history_count.proofs.SpreadLines.{lines-of}
use Rattle.history_count.proofs.history.History.lines.Goals as goal

pub returns-clause-lines : goal.returns-clause-lines
returns-clause-lines c =
    let inside = c.self.inside in
    rw (c.deref.ensures.value, c.deref-2.ensures.value, ← c.self.view_is)
    (lines-of (length inside.large.items) inside.lines.sizes.items (lists_of inside.lines.columns.items) inside.lines.peaks c.self.invariant.lines)

use Rattle.std.proofs.Common.{length, ap, ◌∙◌}
use Rattle.tuner_theory.specs.{Footprint.{footprint_of}, Lists.{lists_of}}
use Rattle.history_count.{proofs.SpreadLines.{lines-few}, specs.CountedLines.{spread}, specs.Histories.{History}}
use Rattle.history_count.proofs.history.History.footprint.Goals as goal

pub table_bytes-requires-clause-columns : goal.table_bytes-requires-clause-columns
table_bytes-requires-clause-columns c =
    let inside = c.self.inside in
    rw (c.deref.ensures.value, c.deref-2.ensures.value)
    (lines-few (length inside.large.items) inside.lines.sizes.items (lists_of inside.lines.columns.items) inside.lines.peaks
    c.self.invariant.lines)

pub returns-clause-footprint : goal.returns-clause-footprint
returns-clause-footprint c =
    c.table_bytes.ensures.footprint
    ∙ ap (λ sizes. footprint_of (spread sizes (lists_of c.deref-2.result.now)) c.args.table.now) c.deref.ensures.value
    ∙ ap (λ columns. footprint_of (spread c.self.inside.lines.sizes.items (lists_of columns)) c.args.table.now) c.deref-2.ensures.value
    ∙ ap (λ (h : History). footprint_of h.snapshots c.args.table.now) c.self.view_is

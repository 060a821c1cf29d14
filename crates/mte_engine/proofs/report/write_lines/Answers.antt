use Rattle.std.proofs.Common.{◌≡◌, ◌+◌, ◌∙◌, ap, length-drop, arith}
use Rattle.trace_event.specs.declared.event.Event.{Event}
use Rattle.replay_core.specs.ReplayState.{Stored, stored_after}
use Rattle.mte_engine.proofs.{InFront.{in_front}, Reporting.{events_after, reported_more}}
use Rattle.mte_engine.proofs.report.write_lines.Goals as goal

one_more : (before after : Stored) (event : Event) → after ≡ stored_after before event → after.totals.events ≡ before.totals.events + 1
one_more before after event is = ap (λ (s : Stored). s.totals.events) is ∙ events_after before event

pub lines-preserved : goal.lines-preserved
lines-preserved c =
    let inv = c.lines.invariant in
    let events = c.args.events.now in
    let k = c.lines.done in
    let more = one_more c.lines.replay c.step_at-end.new.self _ c.step_at-end.ensures.stored in
    grind (arith, reported_more, in_front, length-drop)

use Rattle.std.proofs.Common.{sym, ◌∙◌}
use Rattle.history_count.proofs.TimelineLemmas.Runs.{finds-none, finds-some, live_counts-event, lowered-after, raised-may, raised-none}
use Rattle.history_count.proofs.timelines.live.count.Goals as goal

pub returns-then-most-eq0-clause-found : goal.returns-then-most-eq0-clause-found
returns-then-most-eq0-clause-found c =
    finds-none c.args.events.now c.args.live.now c.args.event c.requires.live c.requires.size
    (raised-none c.args.event _ (sym (rw c.event_size-n.ensures at c.raise_count-most.ensures) ∙ c.if-most-eq0.true))

pub returns-clause-found : goal.returns-clause-found
returns-clause-found c =
    finds-some c.args.events.now c.args.live.now c.args.event c.requires.live c.requires.size
    (raised-may c.args.event _ (λ none. c.if-most-eq0.false (rw c.event_size-n.ensures at c.raise_count-most.ensures ∙ none)))

pub returns-clause-live : goal.returns-clause-live
returns-clause-live c =
    rw (c.lower_count.ensures, c.raise_count-most.ensures, lowered-after, c.event_size-n.ensures)
    (live_counts-event c.args.events.now c.args.live.now c.args.event c.requires.live c.requires.size c.requires.few
    (raised-may c.args.event _ (λ none. c.if-most-eq0.false (rw c.event_size-n.ensures at c.raise_count-most.ensures ∙ none))))

use Rattle.std.proofs.Common.{length, refl}
use Rattle.history_count.proofs.TimelineLemmas.Requests.{largest_decides, largest_is_first, no_largest}
use Rattle.history_count.proofs.timelines.index.TimelineIndex.largest_moment.Goals as goal

pub returns-clause-decides : goal.returns-clause-decides
returns-clause-decides c =
    let inside = c.self.inside in
    let events = inside.events.now in
    rw (← c.self.view_is)
    (largest_decides events (length events) inside.requested.largest.above inside.requested.largest.moment c.self.invariant.timeline refl
    c.self.invariant.requested_are.largest)

pub returns-clause-first : goal.returns-clause-first
returns-clause-first c =
    let inside = c.self.inside in
    let events = inside.events.now in
    rw (← c.self.view_is)
    (λ n is. largest_is_first events (length events) inside.requested.largest.above inside.requested.largest.moment n refl
    c.self.invariant.requested_are.largest is)

pub returns-clause-none : goal.returns-clause-none
returns-clause-none c =
    let inside = c.self.inside in
    let events = inside.events.now in
    rw (← c.self.view_is)
    (λ unrequested. no_largest events (length events) inside.requested.largest.above inside.requested.largest.moment refl
    c.self.invariant.requested_are.largest unrequested)

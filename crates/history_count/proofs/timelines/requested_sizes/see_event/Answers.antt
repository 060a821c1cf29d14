use Rattle.std.proofs.Common.{get_or, refl}
use Rattle.tuner_theory.specs.declared.size_event.SizeEvent.TheVariants.{Request}
use Rattle.history_count.proofs.TimelineLemmas.Requested.{largest-again, seen-again, seen-more}
use Rattle.history_count.proofs.timelines.requested_sizes.see_event.Goals as goal

pub returns-then-seen-n-gt0-clause-seen : goal.returns-then-seen-n-gt0-clause-seen
returns-then-seen-n-gt0-clause-seen c =
    seen-again c.args.events.now c.args.k c.args.seen.now (get_or c.args.events.now c.args.k (Request 0)) c.requires.timeline c.requires.event
    c.requires.seen refl (rw c.event_size-n.ensures at c.if-seen-n-gt0.true)

pub returns-then-seen-n-gt0-clause-largest : goal.returns-then-seen-n-gt0-clause-largest
returns-then-seen-n-gt0-clause-largest c =
    largest-again c.args.events.now c.args.k c.args.seen.now (get_or c.args.events.now c.args.k (Request 0)) c.requires.timeline c.requires.event
    c.requires.seen refl (rw c.event_size-n.ensures at c.if-seen-n-gt0.true) c.args.largest.above c.args.largest.moment c.requires.largest

pub returns-clause-seen : goal.returns-clause-seen
returns-clause-seen c =
    rw c.event_size-n.ensures
    (seen-more c.args.events.now c.args.k c.args.seen.now (get_or c.args.events.now c.args.k (Request 0)) c.requires.timeline c.requires.event
    c.requires.seen refl)

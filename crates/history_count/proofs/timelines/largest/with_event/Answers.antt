use Rattle.std.proofs.Common.{get_or, arith, refl, inl, inr}
use Rattle.tuner_theory.specs.declared.size_event.SizeEvent.TheVariants.{Request}
use Rattle.history_count.proofs.TimelineLemmas.Requests.{largest_kept, largest_moved}
use Rattle.history_count.proofs.timelines.largest.with_event.Goals as goal

pub returns-then-n-found : goal.returns-then-n-found
returns-then-n-found c =
    largest_kept c.args.events.now c.args.k c.args.found.above c.args.found.moment (get_or c.args.events.now c.args.k (Request 0))
    c.requires.event c.requires.found refl (inl (omega (arith, c.event_size-n.ensures, c.if-n-found.true)))

pub returns-then-n-ge-LARGE_SIZE : goal.returns-then-n-ge-LARGE_SIZE
returns-then-n-ge-LARGE_SIZE c =
    largest_kept c.args.events.now c.args.k c.args.found.above c.args.found.moment (get_or c.args.events.now c.args.k (Request 0))
    c.requires.event c.requires.found refl (inr (omega (arith, c.event_size-n.ensures, c.if-n-ge-LARGE_SIZE.true)))

pub returns : goal.returns
returns c =
    rw c.event_size-n.ensures
    (largest_moved c.args.events.now c.args.k c.args.found.above c.args.found.moment (get_or c.args.events.now c.args.k (Request 0))
    c.requires.timeline c.requires.event c.requires.found refl (omega (arith, c.event_size-n.ensures, c.if-n-found.false))
    (omega (arith, c.event_size-n.ensures, c.if-n-ge-LARGE_SIZE.false)))

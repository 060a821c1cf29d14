use Rattle.std.proofs.Common.{length, get_or, arith, ap, refl}
use Rattle.tuner_theory.specs.{Timelines.{snapshot_at}, declared.size_event.SizeEvent.TheVariants.{Request}}
use Rattle.history_count.proofs.TimelineLemmas.Columns.{bounds-start, column-event, column-large, column-length}
use Rattle.history_count.proofs.timelines.stretches.count_line.Goals as goal

pub returns-then-n-ge-LARGE_SIZE-clause-counts : goal.returns-then-n-ge-LARGE_SIZE-clause-counts
returns-then-n-ge-LARGE_SIZE-clause-counts c = grind (arith, column-large)

pub bounds-counts-line : goal.bounds-counts-line
bounds-counts-line c =
    let events = c.args.events.now in
    let r = c.args.requested.now in
    let its = column-event events r c.args.k (get_or events c.args.k (Request 0)) c.requires.timeline c.requires.requested c.requires.event refl
    (omega (arith, c.event_size-n.ensures, c.if-n-ge-LARGE_SIZE.false)) c.index.result.now (rw c.event_size-n.ensures at c.index.ensures) in
    omega (arith, its.within, ap length c.requires.counts, column-length r.sizes.items (snapshot_at events c.args.k))

pub count_after-requires-clause-few : goal.count_after-requires-clause-few
count_after-requires-clause-few c = grind (arith, bounds-start)

pub count_after-requires-clause-live : goal.count_after-requires-clause-live
count_after-requires-clause-live c = grind (arith, column-event)

pub bounds-counts-line-2 : goal.bounds-counts-line-2
bounds-counts-line-2 c =
    let events = c.args.events.now in
    let r = c.args.requested.now in
    let its = column-event events r c.args.k (get_or events c.args.k (Request 0)) c.requires.timeline c.requires.requested c.requires.event refl
    (omega (arith, c.event_size-n.ensures, c.if-n-ge-LARGE_SIZE.false)) c.index.result.now (rw c.event_size-n.ensures at c.index.ensures) in
    omega (arith, its.within, ap length c.requires.counts, column-length r.sizes.items (snapshot_at events c.args.k))

pub returns-clause-counts : goal.returns-clause-counts
returns-clause-counts c =
    let events = c.args.events.now in
    let r = c.args.requested.now in
    let its = column-event events r c.args.k (get_or events c.args.k (Request 0)) c.requires.timeline c.requires.requested c.requires.event refl
    (omega (arith, c.event_size-n.ensures, c.if-n-ge-LARGE_SIZE.false)) c.index.result.now (rw c.event_size-n.ensures at c.index.ensures) in
    rw (c.count_after.ensures, c.requires.counts) its.after

pub returns-clause-line : goal.returns-clause-line
returns-clause-line c =
    let events = c.args.events.now in
    let r = c.args.requested.now in
    let its = column-event events r c.args.k (get_or events c.args.k (Request 0)) c.requires.timeline c.requires.requested c.requires.event refl
    (omega (arith, c.event_size-n.ensures, c.if-n-ge-LARGE_SIZE.false)) c.index.result.now (rw c.event_size-n.ensures at c.index.ensures) in
    its.within

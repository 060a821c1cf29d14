use Rattle.std.proofs.Common.{arith, get_or, refl}
use Rattle.tuner_theory.specs.declared.size_event.SizeEvent.TheVariants.{Request}
use Rattle.history_count.proofs.TimelineLemmas.{Requests.{least_kept, least_unserved}, TablePeaks.{event_moved}}
use Rattle.history_count.proofs.TimelineLemmas.Steps.{event_live, event_step, number_gives_none, number_serves, unserved_step}
use Rattle.history_count.specs.Timelines.Runs.{size_of}
use Rattle.history_count.proofs.timelines.counting.count_event.Goals as goal

pub count_after-count-requires-clause-live : goal.count_after-count-requires-clause-live
count_after-count-requires-clause-live c =
    let found = rw c.event_size-n.ensures at c.in-Some.ensures.some in
    event_live c.args.events.now c.args.layout.now.classes c.args.k c.in-Some.number c.args.live.now c.args.most.now c.args.firsts.now
    c.requires.timeline c.requires.event c.requires.live found.2 (get_or c.args.events.now c.args.k (Request 0)) refl found.0 found.1

pub returns-clause-live : goal.returns-clause-live
returns-clause-live c =
    let found = rw c.event_size-n.ensures at c.in-Some.ensures.some in
    rw (c.note.ensures.most, c.note.ensures.firsts, c.count_after-count.ensures)
    (event_step c.args.events.now c.args.layout.now.classes c.args.k c.in-Some.number c.args.live.now c.args.most.now c.args.firsts.now
    c.requires.timeline c.requires.event c.requires.live found.2 (get_or c.args.events.now c.args.k (Request 0)) c.requires.legal refl
    found.0 found.1)

pub returns-in_default-clause-live : goal.returns-in_default-clause-live
returns-in_default-clause-live c =
    unserved_step c.args.events.now c.args.layout.now.classes c.args.k (get_or c.args.events.now c.args.k (Request 0)) c.args.live.now
    c.args.most.now c.args.firsts.now c.requires.timeline c.requires.event c.requires.live refl (rw c.event_size-n.ensures at c.in_default.ensures.none)

pub returns-clause-moved : goal.returns-clause-moved
returns-clause-moved c =
    let found = rw c.event_size-n.ensures at c.in-Some.ensures.some in
    let are = c.requires.live in
    let event = get_or c.args.events.now c.args.k (Request 0) in
    let may = event_live c.args.events.now c.args.layout.now.classes c.args.k c.in-Some.number c.args.live.now c.args.most.now c.args.firsts.now
    c.requires.timeline c.requires.event are found.2 event refl found.0 found.1 in
    rw (c.block_move-moved.ensures, c.note.ensures.most, c.count_after-count.ensures)
    (event_moved event c.args.live.now c.args.most.now c.in-Some.number (omega (arith, are.live_len, found.2))
    (omega (arith, are.most_len, found.2)) (are.below c.in-Some.number found.2) may)

pub returns-in_default-clause-moved : goal.returns-in_default-clause-moved
returns-in_default-clause-moved c = (λ j. refl, λ j. refl)

pub returns-clause-least : goal.returns-clause-least
returns-clause-least c =
    let found = rw c.event_size-n.ensures at c.in-Some.ensures.some in
    least_kept c.args.events.now c.args.layout.now.classes c.args.k c.args.least (get_or c.args.events.now c.args.k (Request 0)) c.requires.event
    c.requires.least refl
    (number_serves c.args.layout.now.classes (size_of (get_or c.args.events.now c.args.k (Request 0))) c.in-Some.number found.1 found.2)

pub returns-in_default-clause-least : goal.returns-in_default-clause-least
returns-in_default-clause-least c =
    rw (c.min.ensures, c.event_size-n.ensures)
    (least_unserved c.args.events.now c.args.layout.now.classes c.args.k c.args.least (get_or c.args.events.now c.args.k (Request 0))
    c.requires.timeline c.requires.event c.requires.least refl
    (grind (arith, number_gives_none)))

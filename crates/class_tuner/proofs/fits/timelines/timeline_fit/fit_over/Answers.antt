use Rattle.std.proofs.{Common.{◌≡◌, max, refl, sym, arith, ◌∙◌}, lemmas.Bool.{true≢false}}
use Rattle.class_tuner.proofs.FitLemmas.TimelineLemmas.Rounds.{AreReady, IsMade, IsSetting, costs-fit, firsts-within, ready-first}
use Rattle.class_tuner.proofs.FitLemmas.TimelineLemmas.Rounds.{ready-next, so_far-first, so_far-more, tight-first, tight-more}
use Rattle.class_tuner.proofs.fits.timelines.timeline_fit.fit_over.Goals.{In_ok-best, In_ok-next, In_ok-numbers}
use Rattle.class_tuner.proofs.fits.timelines.timeline_fit.fit_over.Goals as goal

setting : (c : In_ok-numbers) → IsSetting c.events-events.result.now c.largest_moment-decisive.result
setting c = record {
  timeline = rw c.events-events.ensures.events c.events-events.ensures.timeline;
  within = rw c.in_ok-index.ensures at c.largest_moment-decisive.ensures.within;
  decides = rw c.in_ok-index.ensures at c.largest_moment-decisive.ensures.decides;
  decisive = record {
    first = rw c.in_ok-index.ensures at c.largest_moment-decisive.ensures.first;
    none = rw c.in_ok-index.ensures at c.largest_moment-decisive.ensures.none;
  };
}

-- ---- the first round

ready : (c : In_ok-numbers)
    → AreReady c.events-events.result.now c.largest_moment-decisive.result c.args.step c.args.limit c.args.forced 0 c.in_ok-numbers.numbers.items
ready c =
    ready-first c.events-events.result.now c.largest_moment-decisive.result c.args.step c.args.limit c.args.forced (setting c)
    c.in_ok-numbers.numbers.items c.in_ok-numbers.ensures

first-made : (c : In_ok-best) → IsMade c.events-events.result.now c.args.step c.args.limit c.args.forced c.in_ok-numbers.numbers.items c.in_ok-best.best
first-made c = record {
  fitted = rw (c.deref.ensures.value, c.in_ok-index.ensures) at c.in_ok-best.ensures.fitted;
  taken = rw c.in_ok-index.ensures at c.in_ok-best.ensures.takes;
  firsts_are = rw c.in_ok-index.ensures at c.in_ok-best.ensures.firsts;
  legal = c.in_ok-best.ensures.legal;
  exact = rw (c.deref.ensures.value, c.in_ok-index.ensures) at c.in_ok-best.ensures.exact;
}

pub returns-then-is_tight : goal.returns-then-is_tight
returns-then-is_tight c =
    let at = goal.at.returns-then-is_tight c in
    let shown = tight-first c.events-events.result.now c.largest_moment-decisive.result c.args.step c.args.limit c.args.forced
    (setting at.In_ok-numbers) c.in_ok-numbers.numbers.items c.in_ok-best.best (ready at.In_ok-numbers) (first-made at.In_ok-best)
    (c.is_tight.ensures.0 c.if-is_tight.true) in
    rw (c.least_of.ensures, ← c.events-events.ensures.events)
    (record { found = (omega arith, shown.0); exact = shown.1.exact; bounded = shown.1.few })

pub with_moments-requires-clause-further : goal.with_moments-requires-clause-further
with_moments-requires-clause-further c =
    rw c.deref-2.ensures.value
    (firsts-within c.events-events.result.now c.in_ok-best.best.fit.table c.in_ok-best.best.firsts.items
    (rw c.in_ok-index.ensures at c.in_ok-best.ensures.firsts))

pub loop-made-init : goal.loop-made-init
loop-made-init c =
    let at = goal.at.loop-made-init c in
    let more = c.in_ok-numbers-2.ensures in
    let next = ready-next c.events-events.result.now c.largest_moment-decisive.result c.args.step c.args.limit c.args.forced (setting at.In_ok-numbers) 0
    c.in_ok-numbers.numbers.items c.in_ok-best.best (ready at.In_ok-numbers) (first-made at.In_ok-best) c.in_ok-numbers-2.numbers.items
    more.few more.within more.kept (rw c.deref-2.ensures.value at more.union) in
    record {
      so_far = so_far-first c.events-events.result.now c.largest_moment-decisive.result c.args.step c.args.limit c.args.forced
          (setting at.In_ok-numbers) c.in_ok-numbers.numbers.items c.in_ok-best.best (ready at.In_ok-numbers) (first-made at.In_ok-best)
          c.in_ok-numbers-2.numbers.items (λ same. true≢false (sym (c.is_tight.ensures.1 same) ∙ c.if-is_tight.false)) next;
      within = omega arith;
    }

-- ---- a later round

later-made : (c : In_ok-next) → IsMade c.events-events.result.now c.args.step c.args.limit c.args.forced c.loop-made.numbers.items c.in_ok-next.next
later-made c = record {
  fitted = rw (c.deref-in-loop-made.ensures.value, c.in_ok-index.ensures) at c.in_ok-next.ensures.fitted;
  taken = rw c.in_ok-index.ensures at c.in_ok-next.ensures.takes;
  firsts_are = rw c.in_ok-index.ensures at c.in_ok-next.ensures.firsts;
  legal = c.in_ok-next.ensures.legal;
  exact = rw (c.deref-in-loop-made.ensures.value, c.in_ok-index.ensures) at c.in_ok-next.ensures.exact;
}

pub overflow_add-evaluations : goal.overflow_add-evaluations
overflow_add-evaluations c =
    let at = goal.at.overflow_add-evaluations c in
    let fits = costs-fit c.events-events.result.now c.largest_moment-decisive.result c.args.step c.args.limit c.args.forced
    (setting at.In_ok-numbers) c.loop-made.made c.loop-made.numbers.items c.loop-made.best c.loop-made.least c.loop-made.evaluations
    c.in_ok-next.next c.loop-made.invariant.so_far (later-made at.In_ok-next)
    (omega (arith, c.loop-made-test.true, c.ranges.rounds.fits)) in
    omega arith

pub round_over-requires-in-loop-made-clause-moments : goal.round_over-requires-in-loop-made-clause-moments
round_over-requires-in-loop-made-clause-moments c =
    rw (c.deref-in-loop-made.ensures.value, c.in_ok-index.ensures) c.loop-made.invariant.so_far.ready.over.are

pub returns-then-is_tight-2 : goal.returns-then-is_tight-2
returns-then-is_tight-2 c =
    let at = goal.at.returns-then-is_tight-2 c in
    let shown = tight-more c.events-events.result.now c.largest_moment-decisive.result c.args.step c.args.limit c.args.forced
    (setting at.In_ok-numbers) c.loop-made.made c.loop-made.numbers.items c.loop-made.best c.loop-made.least c.loop-made.evaluations
    c.in_ok-next.next c.loop-made.invariant.so_far (later-made at.In_ok-next) (c.is_tight-in-loop-made.ensures.0 c.if-is_tight-2.true) in
    rw (c.least_of-then-is_tight-2.ensures, ← c.events-events.ensures.events)
    (record { found = (omega arith, shown.0); exact = shown.1.exact; bounded = shown.1.few })

pub with_moments-requires-in-loop-made-clause-further : goal.with_moments-requires-in-loop-made-clause-further
with_moments-requires-in-loop-made-clause-further c =
    rw c.deref-in-loop-made-2.ensures.value
    (firsts-within c.events-events.result.now c.in_ok-next.next.fit.table c.in_ok-next.next.firsts.items
    (rw c.in_ok-index.ensures at c.in_ok-next.ensures.firsts))

pub loop-made-preserved : goal.loop-made-preserved
loop-made-preserved c =
    let at = goal.at.loop-made-preserved c in
    let more = c.in_ok-numbers-3.ensures in
    let next = ready-next c.events-events.result.now c.largest_moment-decisive.result c.args.step c.args.limit c.args.forced (setting at.In_ok-numbers)
    c.loop-made.made c.loop-made.numbers.items c.in_ok-next.next c.loop-made.invariant.so_far.ready (later-made at.In_ok-next)
    c.in_ok-numbers-3.numbers.items more.few more.within more.kept (rw c.deref-in-loop-made-2.ensures.value at more.union) in
    record {
      so_far = rw c.max-least.ensures
          (so_far-more c.events-events.result.now c.largest_moment-decisive.result c.args.step c.args.limit c.args.forced (setting at.In_ok-numbers)
          c.loop-made.made c.loop-made.numbers.items c.loop-made.best c.loop-made.least c.loop-made.evaluations c.in_ok-next.next
          c.loop-made.invariant.so_far (later-made at.In_ok-next) c.in_ok-numbers-3.numbers.items c.better-best.result
          (λ same. true≢false (sym (c.is_tight-in-loop-made.ensures.1 same) ∙ c.if-is_tight-2.false)) next c.better-best.ensures);
      within = omega arith;
    }

-- ---- after the last round

pub returns : goal.returns
returns c =
    let so_far = c.loop-made.invariant.so_far in
    let all : c.loop-made.made ≡ max c.args.rounds 1 =
    omega (arith, c.loop-made-test.false, c.loop-made.invariant.within, c.loop-made.auto.made) in
    rw (c.interval_of.ensures, c.max.ensures, ← all, ← c.events-events.ensures.events)
    (record { found = (refl, so_far.between); exact = so_far.costs.exact; bounded = so_far.costs.few })

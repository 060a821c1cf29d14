use Rattle.std.proofs.{Common.{◌≡◌, ◌∙◌, arith, length, subst, ℕ}, lemmas.List.{with_items_is}}
use Rattle.history_count.proofs.TimelineLemmas.{Requests.{least_none}, Steps.{all_counted, all_first, all_small, known-none, nothing_live}}
use Rattle.history_count.specs.Timelines.Requests.{IsLeastSoFar}
use Rattle.history_count.proofs.timelines.counting.class_peaks.Goals as goal

pub loop-k-init : goal.loop-k-init
loop-k-init c = record {
  live = rw (c.in_ok-live.ensures, c.in_ok-most.ensures, c.in_ok-firsts.ensures, c.len.ensures.len, c.len-2.ensures.len, c.len-3.ensures.len)
      (nothing_live c.args.events.now c.args.table.now);
  known = rw c.in_ok-known.ensures (known-none c.args.table.now);
  least = least_none c.args.events.now c.args.table.now;
}

pub count_event-counted-requires-clause-legal : goal.count_event-counted-requires-clause-legal
count_event-counted-requires-clause-legal c = rw c.new-layout.ensures c.len.ensures.legal

pub count_event-counted-requires-clause-live : goal.count_event-counted-requires-clause-live
count_event-counted-requires-clause-live c =
    rw (
      c.new-layout.ensures,
      c.deref_mut.ensures.value,
      c.deref_mut-in-loop-k.ensures.value,
      c.deref_mut-in-loop-k-2.ensures.value,
    ) c.loop-k.invariant.live

pub count_event-counted-requires-clause-known : goal.count_event-counted-requires-clause-known
count_event-counted-requires-clause-known c =
    rw (c.new-layout.ensures, c.deref_mut-in-loop-k-3.ensures.value) c.loop-k.invariant.known

pub count_event-counted-requires-clause-least : goal.count_event-counted-requires-clause-least
count_event-counted-requires-clause-least c = rw c.new-layout.ensures c.loop-k.invariant.least

pub loop-k-preserved : goal.loop-k-preserved
loop-k-preserved c =
    let live = with_items_is c.loop-k.live c.count_event-counted.new.live (c.count_event-counted.auto.live ∙ c.deref_mut.ensures.len) in
    let most = with_items_is c.loop-k.most c.count_event-counted.new.most (c.count_event-counted.auto.most ∙ c.deref_mut-in-loop-k.ensures.len) in
    let firsts = with_items_is c.loop-k.firsts c.count_event-counted.new.firsts (c.count_event-counted.auto.firsts ∙ c.deref_mut-in-loop-k-2.ensures.len) in
    let known = with_items_is c.loop-k.known c.count_event-counted.new.known (c.count_event-counted.auto.known ∙ c.deref_mut-in-loop-k-3.ensures.len) in
    record {
      live = rw (live, most, firsts) (rw c.new-layout.ensures at c.count_event-counted.ensures.live);
      known = rw known (rw c.new-layout.ensures at c.count_event-counted.ensures.known);
      least = rw c.new-layout.ensures at c.count_event-counted.ensures.least;
    }

pub returns-clause-most : goal.returns-clause-most
returns-clause-most c =
    all_counted c.args.events.now c.args.table.now c.loop-k.k c.loop-k.live.items c.loop-k.most.items c.loop-k.firsts.items (omega arith)
    c.loop-k.invariant.live

pub returns-clause-small : goal.returns-clause-small
returns-clause-small c =
    all_small c.args.events.now c.args.table.now c.loop-k.k c.loop-k.live.items c.loop-k.most.items c.loop-k.firsts.items (omega arith)
    c.loop-k.invariant.live

pub returns-clause-firsts : goal.returns-clause-firsts
returns-clause-firsts c =
    all_first c.args.events.now c.args.table.now c.loop-k.k c.loop-k.live.items c.loop-k.most.items c.loop-k.firsts.items (omega arith)
    c.loop-k.invariant.live

pub returns-clause-least : goal.returns-clause-least
returns-clause-least c =
    let all : c.loop-k.k ≡ length c.args.events.now = omega arith in
    subst (λ (k : ℕ). IsLeastSoFar c.args.events.now c.args.table.now k c.loop-k.least) all c.loop-k.invariant.least

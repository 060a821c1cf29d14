use Rattle.std.proofs.{Common.{◌≡◌, ◌∙◌, ap, arith, length, refl, subst, ℕ}, lemmas.List.{with_items_is}}
use Rattle.history_count.proofs.TimelineLemmas.Requests.{least_none, none_is_unserved, unserved_is_least}
use Rattle.history_count.proofs.TimelineLemmas.{Steps.{all_counted, all_first, known-none, nothing_live}, TablePeaks.{no-sums, sums-moved}}
use Rattle.history_count.specs.Timelines.{Requests.{IsLeastSoFar}, TablePeaks.{freed_blocks, greatest_to, live_bytes}}
use Rattle.tuner_theory.{proofs.TimelineBlocks.{most_to-all}, specs.Timelines.{most_to}}
use Rattle.history_count.proofs.timelines.sums.table_peaks.Goals as goal

pub loop-k-init : goal.loop-k-init
loop-k-init c = record {
  live = rw (c.in_ok-live.ensures, c.in_ok-most.ensures, c.in_ok-firsts.ensures, c.len.ensures.len, c.len-2.ensures.len, c.len-3.ensures.len)
      (nothing_live c.args.events.now c.args.table.now);
  known = rw c.in_ok-known.ensures (known-none c.args.table.now);
  least = least_none c.args.events.now c.args.table.now;
  sums = no-sums c.args.events.now c.args.table.now _ refl refl refl refl refl;
}

pub moved_sums-sums-requires-clause-moved : goal.moved_sums-sums-requires-clause-moved
moved_sums-sums-requires-clause-moved c =
    let counted = c.count_event-counted in
    let moved = rw (c.deref_mut.ensures.value, c.deref_mut-in-loop-k.ensures.value) at counted.ensures.moved in
    (sums-moved c.args.events.now c.args.table.now c.loop-k.k c.loop-k.sums c.loop-k.live.items c.loop-k.most.items c.loop-k.firsts.items
    counted.new.live counted.new.most counted.new.firsts c.loop-k.invariant.live (rw c.new-layout.ensures at counted.ensures.live)
    c.loop-k.invariant.sums c.len.ensures.legal counted.result.moved moved).0

pub count_event-counted-requires-clause-legal : goal.count_event-counted-requires-clause-legal
count_event-counted-requires-clause-legal c = rw c.new-layout.ensures c.len.ensures.legal

pub count_event-counted-requires-clause-live : goal.count_event-counted-requires-clause-live
count_event-counted-requires-clause-live c =
    rw (
      c.new-layout.ensures,
      c.deref_mut.ensures.value,
      c.deref_mut-in-loop-k.ensures.value,
      c.deref_mut-in-loop-k-2.ensures.value,
    ) c.loop-k.invariant.live

pub count_event-counted-requires-clause-known : goal.count_event-counted-requires-clause-known
count_event-counted-requires-clause-known c =
    rw (c.new-layout.ensures, c.deref_mut-in-loop-k-3.ensures.value) c.loop-k.invariant.known

pub count_event-counted-requires-clause-least : goal.count_event-counted-requires-clause-least
count_event-counted-requires-clause-least c = rw c.new-layout.ensures c.loop-k.invariant.least

pub loop-k-preserved : goal.loop-k-preserved
loop-k-preserved c =
    let counted = c.count_event-counted in
    let live = with_items_is c.loop-k.live counted.new.live (counted.auto.live ∙ c.deref_mut.ensures.len) in
    let most = with_items_is c.loop-k.most counted.new.most (counted.auto.most ∙ c.deref_mut-in-loop-k.ensures.len) in
    let firsts = with_items_is c.loop-k.firsts counted.new.firsts (counted.auto.firsts ∙ c.deref_mut-in-loop-k-2.ensures.len) in
    let known = with_items_is c.loop-k.known counted.new.known (counted.auto.known ∙ c.deref_mut-in-loop-k-3.ensures.len) in
    let are = rw c.new-layout.ensures at counted.ensures.live in
    let moved = rw (c.deref_mut.ensures.value, c.deref_mut-in-loop-k.ensures.value) at counted.ensures.moved in
    record {
      live = rw (live, most, firsts) are;
      known = rw known (rw c.new-layout.ensures at counted.ensures.known);
      least = rw c.new-layout.ensures at counted.ensures.least;
      sums = rw c.moved_sums-sums.ensures
          (sums-moved c.args.events.now c.args.table.now c.loop-k.k c.loop-k.sums c.loop-k.live.items c.loop-k.most.items c.loop-k.firsts.items
          counted.new.live counted.new.most counted.new.firsts c.loop-k.invariant.live are c.loop-k.invariant.sums c.len.ensures.legal counted.result.moved
          moved).1;
    }

pub returns-clause-most : goal.returns-clause-most
returns-clause-most c =
    all_counted c.args.events.now c.args.table.now c.loop-k.k c.loop-k.live.items c.loop-k.most.items c.loop-k.firsts.items (omega arith)
    c.loop-k.invariant.live

pub returns-clause-firsts : goal.returns-clause-firsts
returns-clause-firsts c =
    all_first c.args.events.now c.args.table.now c.loop-k.k c.loop-k.live.items c.loop-k.most.items c.loop-k.firsts.items (omega arith)
    c.loop-k.invariant.live

pub returns-clause-bytes : goal.returns-clause-bytes
returns-clause-bytes c =
    let all : c.loop-k.k ≡ length c.args.events.now = omega arith in
    c.loop-k.invariant.sums.most_bytes ∙ ap (most_to (live_bytes c.args.table.now) c.args.events.now) all
    ∙ most_to-all (live_bytes c.args.table.now) c.args.events.now

pub returns-clause-freed : goal.returns-clause-freed
returns-clause-freed c =
    let all : c.loop-k.k ≡ length c.args.events.now = omega arith in
    c.loop-k.invariant.sums.most_freed ∙ ap (greatest_to (freed_blocks c.args.events.now c.args.table.now)) all

pub returns-clause-some : goal.returns-clause-some
returns-clause-some c =
    let all : c.loop-k.k ≡ length c.args.events.now = omega arith in
    unserved_is_least c.args.events.now c.args.table.now c.loop-k.least
    (subst (λ (k : ℕ). IsLeastSoFar c.args.events.now c.args.table.now k c.loop-k.least) all c.loop-k.invariant.least) c.unserved_size.result
    c.unserved_size.ensures.some

pub returns-clause-none : goal.returns-clause-none
returns-clause-none c =
    let all : c.loop-k.k ≡ length c.args.events.now = omega arith in
    none_is_unserved c.args.events.now c.args.table.now c.loop-k.least
    (subst (λ (k : ℕ). IsLeastSoFar c.args.events.now c.args.table.now k c.loop-k.least) all c.loop-k.invariant.least) c.unserved_size.result
    c.requires c.unserved_size.ensures.none

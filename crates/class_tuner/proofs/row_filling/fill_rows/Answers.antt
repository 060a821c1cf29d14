use Rattle.std.proofs.Common.{◌≡◌, ◌+◌, ◌-◌, ◌^◌, add-one, arith, ◌∙◌}
use Rattle.class_tuner.proofs.{CallCounts.{calls-more, room-left}, Rows.{filled-first, filled-pushed, filled-small, has-row, row-read}}
use Rattle.class_tuner.{proofs.SourceChanges.{OnlyCounts-more}, proofs.Tried.{calls-first, calls-pushed}, specs.Filling.{IsFilledWithin}}
use Rattle.class_tuner.proofs.row_filling.fill_rows.Goals as goal

pub next_row-requires-clause-before : goal.next_row-requires-clause-before
next_row-requires-clause-before g c =
    let f = c.loop-k.invariant.filled in
    let d = g.C.CostSource.place_count c.args.costs.now in
    let row = row-read _ _ c.loop-k.k (c.loop-k.k - 1) c.loop-k.filled.rows.items _ c.index.result.now c.deref.result.now (omega arith) f
    c.index.ensures c.deref.ensures.value in
    record {
      few = rw c.loop-k.invariant.only_counts.same_places c.requires.places;
      length = grind arith;
      small = λ j. rw row (filled-small _ d c.loop-k.k (2 ^ 60) _ _ f
          (λ i lt. g.met.C.CostSource.is_small c.args.costs.now i d lt (omega arith)) c.loop-k.k j (omega arith) (omega arith));
    }

pub next_row-requires-clause-room : goal.next_row-requires-clause-room
next_row-requires-clause-room g c =
    rw c.loop-k.invariant.only_counts.same_places
    (room-left (g.C.CostSource.call_count c.args.costs.now) _ c.loop-k.k _ c.requires.room (omega arith) c.requires.places
    c.loop-k.invariant.bounded)

pub loop-k-init : goal.loop-k-init
loop-k-init g c = record {
  filled = grind (arith, filled-first);
  bounded = omega (arith, c.first_row.ensures.bounded);
  exact =
      grind (arith, calls-first);
  only_counts = c.first_row.ensures.only_counts;
}

pub returns-in_err-push-2-clause-bounded : goal.returns-in_err-push-2-clause-bounded
returns-in_err-push-2-clause-bounded g c =
    calls-more (g.C.CostSource.call_count c.args.costs.now) (g.C.CostSource.call_count c.loop-k.costs) _ c.loop-k.k c.args.limit _
    c.loop-k.invariant.bounded (rw c.loop-k.invariant.only_counts.same_places at c.in_ok-next.ensures.bounded) (omega arith)

pub loop-k-preserved : goal.loop-k-preserved
loop-k-preserved g c =
    let f = c.loop-k.invariant.filled in
    let d = g.C.CostSource.place_count c.args.costs.now in
    let row = row-read _ _ c.loop-k.k (c.loop-k.k - 1) c.loop-k.filled.rows.items _ c.index.result.now c.deref.result.now (omega arith) f
    c.index.ensures c.deref.ensures.value in
    let same = c.loop-k.invariant.only_counts in
    let next = c.in_ok-next.next in
    let within : IsFilledWithin (g.C.CostSource.cost c.args.costs.now) d c.deref.result.now next.costs.items next.ends.items 0 d =
    rw (same.same_cost, same.same_places) at c.in_ok-next.ensures.next.filled in
    record {
      filled = rw add-one (filled-pushed _ d c.loop-k.k _ _ _ _ _ _ c.deref.result.now (omega arith) f
          (c.in_ok-next.ensures.next.costs_length ∙ same.same_places) (c.in_ok-next.ensures.next.ends_length ∙ same.same_places)
          row within c.in_ok-push-2.ensures.rows c.in_ok-push-2.ensures.ends);
      bounded = calls-more (g.C.CostSource.call_count c.args.costs.now) (g.C.CostSource.call_count c.loop-k.costs) _
          c.loop-k.k (c.loop-k.k + 1) d c.loop-k.invariant.bounded (rw same.same_places at c.in_ok-next.ensures.bounded) (omega arith);
      exact = rw add-one (calls-pushed _ _ _ d c.loop-k.k (g.C.CostSource.call_count c.args.costs.now)
          (g.C.CostSource.call_count c.loop-k.costs) _ (omega arith) f.ends_shape.row_count
          c.in_ok-push-2.ensures.ends c.loop-k.invariant.exact
          (rw same.same_places at c.in_ok-next.ensures.exact));
      only_counts = OnlyCounts-more g.C.CostSource g.met.C.CostSource.keeps_last _ _ _ same c.in_ok-next.ensures.only_counts;
    }

pub returns-clause-filled : goal.returns-clause-filled
returns-clause-filled g c =
    let all : c.loop-k.k ≡ c.args.limit = omega arith in
    grind arith

pub returns-in_err-next-clause-bounded : goal.returns-in_err-next-clause-bounded
returns-in_err-next-clause-bounded g c =
    calls-more (g.C.CostSource.call_count c.args.costs.now) (g.C.CostSource.call_count c.loop-k.costs) _ c.loop-k.k c.args.limit _
    c.loop-k.invariant.bounded (rw c.loop-k.invariant.only_counts.same_places at c.next_row.ensures.bounded) (omega arith)

pub returns-in_err-next-clause-kept : goal.returns-in_err-next-clause-kept
returns-in_err-next-clause-kept g c =
    (OnlyCounts-more g.C.CostSource g.met.C.CostSource.keeps_last _ _ _ c.loop-k.invariant.only_counts c.next_row.ensures.only_counts).kept

pub returns-in_err-push-2-clause-kept : goal.returns-in_err-push-2-clause-kept
returns-in_err-push-2-clause-kept g c =
    (OnlyCounts-more g.C.CostSource g.met.C.CostSource.keeps_last _ _ _ c.loop-k.invariant.only_counts c.in_ok-next.ensures.only_counts).kept

pub returns-in_err-first-clause-bounded : goal.returns-in_err-first-clause-bounded
returns-in_err-first-clause-bounded g c =
    let before = g.C.CostSource.call_count c.args.costs.now in
    calls-more before before _ 0 c.args.limit (g.C.CostSource.place_count c.args.costs.now) (omega arith)
    (omega (arith, c.first_row.ensures.bounded)) (omega arith)

pub returns-in_err-push-clause-bounded : goal.returns-in_err-push-clause-bounded
returns-in_err-push-clause-bounded g c =
    let before = g.C.CostSource.call_count c.args.costs.now in
    calls-more before before _ 0 c.args.limit (g.C.CostSource.place_count c.args.costs.now) (omega arith)
    (omega (arith, c.in_ok-first.ensures.bounded)) (omega arith)

pub returns-clause-bounded : goal.returns-clause-bounded
returns-clause-bounded g c = let all : c.loop-k.k ≡ c.args.limit = omega arith in rw all at c.loop-k.invariant.bounded

pub returns-clause-exact : goal.returns-clause-exact
returns-clause-exact g c = let all : c.loop-k.k ≡ c.args.limit = omega arith in rw all at c.loop-k.invariant.exact

pub index-requires : goal.index-requires
index-requires g c =
    let d = g.C.CostSource.place_count c.args.costs.now in
    let row = has-row c.loop-k.filled.rows.items d c.loop-k.k c.loop-k.invariant.filled.rows_shape (c.loop-k.k - 1) (omega arith) in
    omega (arith, c.loop-k.filled.rows.ok.0)

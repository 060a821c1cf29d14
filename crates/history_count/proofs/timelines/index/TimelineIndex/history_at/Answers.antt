use Rattle.std.proofs.{Common.{◌≡◌, [], ◌∷◌, ℕ, List, Vec, arith, ap, subst, ◌∙◌}, lemmas.List.{map-append, take_all}}
use Rattle.std.specs.{Result.{IfOk}, declared.alloc.Global.{Global}}
use Rattle.tuner_theory.{proofs.Timelines.{moments_are_snapshots}, specs.Lists.{lists_of}, specs.Timelines.{history_at}}
use Rattle.history_count.{proofs.TimelineLemmas.Columns.{rows-few, rows-more, rows-spread, rows_at}, specs.CountedLines.{spread}}
use Rattle.history_count.proofs.timelines.index.TimelineIndex.history_at.Goals as goal

pub loop-i-preserved : goal.loop-i-preserved
loop-i-preserved c =
    let events = c.self.inside.events.now in
    let r = c.self.inside.requested in
    record {
      rows = ap lists_of c.in_ok-push.ensures.items
          ∙ map-append (λ (v : Vec ℕ Global). v.items) c.loop-i.rows.items (c.in_ok-row.row ∷ [])
          ∙ rows-more events r c.self.invariant.timeline c.self.invariant.requested_are c.args.numbers.now c.loop-i.i
          (lists_of c.loop-i.rows.items) c.in_ok-row.row.items c.loop-i-test.true c.loop-i.invariant.rows c.in_ok-row.ensures;
    }

pub of_rows-requires-clause-sizes : goal.of_rows-requires-clause-sizes
of_rows-requires-clause-sizes c = rw c.deref.ensures.value c.self.invariant.requested_are.sizes_are

pub of_rows-requires-clause-rows : goal.of_rows-requires-clause-rows
of_rows-requires-clause-rows c =
    let events = c.self.inside.events.now in
    let r = c.self.inside.requested in
    let rows_of = rows_at events r c.self.invariant.timeline c.self.invariant.requested_are in
    let all : lists_of c.loop-i.rows.items ≡ rows_of c.args.numbers.now =
    c.loop-i.invariant.rows ∙ ap rows_of (take_all c.loop-i.i c.args.numbers.now (omega arith)) in
    rw (c.deref.ensures.value, all) (rows-few events r c.self.invariant.timeline c.self.invariant.requested_are c.args.numbers.now)

pub of_rows-requires-clause-snapshots : goal.of_rows-requires-clause-snapshots
of_rows-requires-clause-snapshots c =
    let events = c.self.inside.events.now in
    let r = c.self.inside.requested in
    let rows_of = rows_at events r c.self.invariant.timeline c.self.invariant.requested_are in
    let all : lists_of c.loop-i.rows.items ≡ rows_of c.args.numbers.now =
    c.loop-i.invariant.rows ∙ ap rows_of (take_all c.loop-i.i c.args.numbers.now (omega arith)) in
    let whole = rows-spread events r c.self.invariant.timeline c.self.invariant.requested_are c.args.numbers.now
    (rw c.self.view_is c.requires.within) in
    rw (c.deref.ensures.value, all, whole) (moments_are_snapshots events c.args.numbers.now c.self.invariant.timeline (rw c.self.view_is c.requires))

pub returns : goal.returns
returns c =
    let events = c.self.inside.events.now in
    let r = c.self.inside.requested in
    let rows_of = rows_at events r c.self.invariant.timeline c.self.invariant.requested_are in
    let all : lists_of c.loop-i.rows.items ≡ rows_of c.args.numbers.now =
    c.loop-i.invariant.rows ∙ ap rows_of (take_all c.loop-i.i c.args.numbers.now (omega arith)) in
    let whole = rows-spread events r c.self.invariant.timeline c.self.invariant.requested_are c.args.numbers.now
    (rw c.self.view_is c.requires.within) in
    let same : spread c.deref.result.now (lists_of c.loop-i.rows.items) ≡ history_at c.args.self.now c.args.numbers.now =
    grind arith in
    subst (λ (snapshots : List (List ℕ)). IfOk c.of_rows.result (λ history. history.snapshots ≡ snapshots)) same c.of_rows.ensures

use Rattle.std.proofs.Common.{◌≡◌, ℕ, ◌+◌, ◌-◌, ◌<◌, ◌≤◌, length, slice_index, arith, ap, refl, sym, ◌∙◌, Vec}
use Rattle.std.{proofs.lemmas.List.{with_items_is}, specs.declared.alloc.Global.{Global}}
use Rattle.class_table.specs.declared.sizes.TheConstants.{MOST_NEEDS}
use Rattle.potential_check.proofs.FootprintLemmas.{AlikeRows.{alike-at_end}, Bounds.{row_bounds-next, row_bounds-none, slack-narrowed}}
use Rattle.potential_check.{proofs.FootprintLemmas.CallCounts.{few_spans, more_spans, no_spans}, specs.Footprints.CallCounts.{span_count}}
use Rattle.potential_check.proofs.FootprintLemmas.RowConditions.{costs-grow, tests-at_end, tests-at_start, tests-both}
use Rattle.tuner_theory.specs.{Lists.{lists_of}, Rows.{number_at}}
use Rattle.potential_check.proofs.footprints.row_tests.tests_of.Goals as goal

-- ---- the place before another one

module _ (i d : ℕ) (some : 0 < i) (most : i ≤ d) where
  within : i - 1 < d
  within = omega arith

  next : i - 1 + 1 ≡ i
  next = omega arith

few : (d : ℕ) → d ≤ MOST_NEEDS → d ≤ 65536
few d le = omega arith

no_more : (i : ℕ) → i ≤ 0 → i ≡ 0
no_more i le = omega arith

all_spans : (i d : ℕ) → i ≤ 0 → span_count (d - i) ≡ span_count d
all_spans i d le = let all : d - i ≡ d = omega arith in ap span_count all

-- ---- the goals

pub loop-i-init : goal.loop-i-init
loop-i-init g c = record {
  tests = tests-at_end (g.C.SpanCosts.cost c.args.costs.now) c.args.places c.args.rows.now _ refl refl refl;
  from_length = c.requires.fresh.from_length;
  older_length = c.requires.fresh.older_length;
  from_are = λ j past to. absurd (omega (arith, past, to));
  slack = c.requires.fresh.is_slack;
  bounds = row_bounds-none c.args.from.now.items c.args.slack.now c.args.places (length c.args.rows.now) (number_at c.args.rows.now)
      (lists_of c.args.bounds.now) c.requires.fresh.none;
  alike = alike-at_end c.args.rows.now (length c.args.rows.now) c.args.places c.requires.shape;
  counted = sym (ap (g.C.SpanCosts.after_calls c.args.costs.now) (no_spans c.args.places) ∙ g.met.C.SpanCosts.adds_none c.args.costs.now);
}

pub write_from-requires : goal.write_from-requires
write_from-requires g c =
    let counted = c.loop-i.invariant.counted in
    let same_places : g.C.SpanCosts.place_count c.loop-i.costs ≡ c.args.places =
    ap g.C.SpanCosts.place_count counted ∙ (g.met.C.SpanCosts.keeps_places _ _ ∙ sym c.requires.are_places) in
    let calls : g.C.SpanCosts.call_count c.loop-i.costs ≡ g.C.SpanCosts.call_count c.args.costs.now + span_count (c.args.places - c.loop-i.i) =
    ap g.C.SpanCosts.call_count counted ∙ g.met.C.SpanCosts.adds_calls _ _ in
    let moved : c.swap.new.x ≡ c.loop-i.older = c.swap.ensures.x_after in
    let spare : length c.swap.new.x.items ≡ c.args.places + 1 =
    ap (λ (v : Vec ℕ Global). length v.items) moved ∙ c.loop-i.invariant.older_length in
    rw same_places (record {
      within = within c.loop-i.i c.args.places c.loop-i-test.true c.loop-i.auto.i;
      size = ap length c.deref_mut.ensures.value ∙ spare;
      room = few_spans c.args.places c.loop-i.i _ _ c.requires.few_places calls c.requires.room;
    })

pub lower_slack-requires : goal.lower_slack-requires
lower_slack-requires g c =
    let d = c.args.places in
    let i : ℕ = c.loop-i.i - 1 in
    let cost = g.C.SpanCosts.cost c.args.costs.now in
    let counted = c.loop-i.invariant.counted in
    let same_places : g.C.SpanCosts.place_count c.loop-i.costs ≡ d =
    ap g.C.SpanCosts.place_count counted ∙ (g.met.C.SpanCosts.keeps_places _ _ ∙ sym c.requires.are_places) in
    let same_cost : g.C.SpanCosts.cost c.loop-i.costs ≡ cost = ap g.C.SpanCosts.cost counted ∙ g.met.C.SpanCosts.keeps_cost _ _ in
    let moved : c.swap.new.x ≡ c.loop-i.older = c.swap.ensures.x_after in
    let spare : length c.swap.new.x.items ≡ d + 1 = ap (λ (v : Vec ℕ Global). length v.items) moved ∙ c.loop-i.invariant.older_length in
    let size : length c.write_from.new.costs ≡ d + 1 = c.write_from.ensures.size ∙ (ap length c.deref_mut.ensures.value ∙ spare) in
    let from : c.deref-in-loop-i.result.now ≡ c.write_from.new.costs =
    c.deref-in-loop-i.ensures.value ∙ with_items_is c.swap.new.x c.write_from.new.costs (c.write_from.ensures.size ∙ c.deref_mut.ensures.len) in
    let older : c.deref.result.now ≡ c.loop-i.from.items =
    c.deref.ensures.value ∙ ap (λ (v : Vec ℕ Global). v.items) c.swap.ensures.y_after in
    let grows = rw (sym c.requires.are_places) at (g.met.C.SpanCosts.grows c.args.costs.now) in
    rw (older, from) (record {
      within = within c.loop-i.i d c.loop-i-test.true c.loop-i.auto.i;
      older = c.loop-i.invariant.from_length;
      costs = size;
      long = c.loop-i.invariant.slack.long;
      grow = costs-grow cost d i c.loop-i.i c.loop-i.from.items c.write_from.new.costs (next c.loop-i.i d c.loop-i-test.true c.loop-i.auto.i)
          grows c.loop-i.invariant.from_are
          (λ j after le. c.write_from.ensures.costs j after (rw same_places le) ∙ ap (λ (its : ℕ → ℕ → ℕ). its i j) same_cost);
    })

pub tests_at-requires : goal.tests_at-requires
tests_at-requires g c =
    let d = c.args.places in
    let i : ℕ = c.loop-i.i - 1 in
    let rows = c.args.rows.now in
    let older : c.deref.result.now ≡ c.loop-i.from.items =
    c.deref.ensures.value ∙ ap (λ (v : Vec ℕ Global). v.items) c.swap.ensures.y_after in
    let moved : c.swap.new.x ≡ c.loop-i.older = c.swap.ensures.x_after in
    let spare : length c.swap.new.x.items ≡ d + 1 = ap (λ (v : Vec ℕ Global). length v.items) moved ∙ c.loop-i.invariant.older_length in
    let size : length c.write_from.new.costs ≡ d + 1 = c.write_from.ensures.size ∙ (ap length c.deref_mut.ensures.value ∙ spare) in
    let from = with_items_is c.swap.new.x c.write_from.new.costs (c.write_from.ensures.size ∙ c.deref_mut.ensures.len) in
    let same : c.deref-in-loop-i-2.result.now ≡ c.deref-in-loop-i.result.now =
    c.deref-in-loop-i-2.ensures.value ∙ sym c.deref-in-loop-i.ensures.value in
    rw same (record {
      rows = record {
        few = c.requires.few;
        few_places = few d c.requires.few_places;
        shape = c.requires.shape;
        size = ap length (c.deref-in-loop-i.ensures.value ∙ from) ∙ size;
        place = within c.loop-i.i d c.loop-i-test.true c.loop-i.auto.i;
      };
      slack = slack-narrowed c.deref.result.now c.deref-in-loop-i.result.now c.loop-i.slack c.lower_slack.new.slack i d c.lower_slack.ensures
          c.loop-i.invariant.slack;
      bounds = row_bounds-next c.deref.result.now c.deref-in-loop-i.result.now c.loop-i.slack c.lower_slack.new.slack i d (length rows)
          (number_at rows) (lists_of c.loop-i.bounds) c.lower_slack.ensures
          (rw (older, next c.loop-i.i d c.loop-i-test.true c.loop-i.auto.i) c.loop-i.invariant.bounds);
      alike = rw (next c.loop-i.i d c.loop-i-test.true c.loop-i.auto.i) c.loop-i.invariant.alike;
    })

pub loop-i-preserved : goal.loop-i-preserved
loop-i-preserved g c =
    let d = c.args.places in
    let i : ℕ = c.loop-i.i - 1 in
    let rows = c.args.rows.now in
    let cost = g.C.SpanCosts.cost c.args.costs.now in
    let counted = c.loop-i.invariant.counted in
    let same_places : g.C.SpanCosts.place_count c.loop-i.costs ≡ d =
    ap g.C.SpanCosts.place_count counted ∙ (g.met.C.SpanCosts.keeps_places _ _ ∙ sym c.requires.are_places) in
    let same_cost : g.C.SpanCosts.cost c.loop-i.costs ≡ cost = ap g.C.SpanCosts.cost counted ∙ g.met.C.SpanCosts.keeps_cost _ _ in
    let moved : c.swap.new.x ≡ c.loop-i.older = c.swap.ensures.x_after in
    let spare : length c.swap.new.x.items ≡ d + 1 = ap (λ (v : Vec ℕ Global). length v.items) moved ∙ c.loop-i.invariant.older_length in
    let size : length c.write_from.new.costs ≡ d + 1 = c.write_from.ensures.size ∙ (ap length c.deref_mut.ensures.value ∙ spare) in
    let from = with_items_is c.swap.new.x c.write_from.new.costs (c.write_from.ensures.size ∙ c.deref_mut.ensures.len) in
    let costs : c.deref-in-loop-i-2.result.now ≡ c.write_from.new.costs = c.deref-in-loop-i-2.ensures.value ∙ from in
    let written : (j : ℕ) → i < j → j ≤ d → slice_index c.write_from.new.costs j ≡ cost i j =
    (λ j after le. c.write_from.ensures.costs j after (rw same_places le) ∙ ap (λ (its : ℕ → ℕ → ℕ). its i j) same_cost) in
    rw from (record {
      tests = tests-both cost c.write_from.new.costs d i rows c.loop-i.tests c.tests_at.result c.both_tests-tests.result
          (within c.loop-i.i d c.loop-i-test.true c.loop-i.auto.i) written
          (rw (next c.loop-i.i d c.loop-i-test.true c.loop-i.auto.i) c.loop-i.invariant.tests) (rw costs at c.tests_at.ensures.tests)
          c.both_tests-tests.ensures;
      from_length = size;
      older_length = ap (λ (v : Vec ℕ Global). length v.items) c.swap.ensures.y_after ∙ c.loop-i.invariant.from_length;
      from_are = written;
      slack = slack-narrowed c.deref.result.now c.deref-in-loop-i.result.now c.loop-i.slack c.lower_slack.new.slack i d c.lower_slack.ensures
          c.loop-i.invariant.slack;
      bounds = rw costs at c.tests_at.ensures.bounds;
      alike = c.tests_at.ensures.alike;
      counted = c.write_from.ensures.counted
          ∙ (ap (λ its. g.C.SpanCosts.after_calls its (g.C.SpanCosts.place_count c.loop-i.costs - i)) counted
          ∙ (g.met.C.SpanCosts.adds_up _ _ _
          ∙ ap (g.C.SpanCosts.after_calls c.args.costs.now) (more_spans c.loop-i.i d _ c.loop-i-test.true c.loop-i.auto.i same_places)));
    })

pub returns : goal.returns
returns g c = record {
  tests = tests-at_start (g.C.SpanCosts.cost c.args.costs.now) c.args.places c.loop-i.i c.args.rows.now c.loop-i.tests
      (no_more c.loop-i.i c.loop-i-test.false) c.loop-i.invariant.tests;
  counted = grind (arith, all_spans);
}

use Rattle.std.proofs.{Common.{◌≡◌, ℕ, suc, ◌+◌, ◌-◌, ◌<◌, ◌≤◌, length, slice_index, arith, ap, sym, ◌∙◌, Vec}}
use Rattle.std.{proofs.lemmas.List.{with_items_is}, specs.declared.alloc.Global.{Global}}
use Rattle.class_table.specs.declared.sizes.TheConstants.{MOST_NEEDS}
use Rattle.class_tuner.proofs.FitLemmas.Places.{all-filled, costs-from, costs-older, ready-at_end, rows-from}
use Rattle.class_tuner.specs.Fits.PlaceByPlace.{AreLeastRowsFrom}
use Rattle.potential_check.{proofs.FootprintLemmas.LawLemmas.{alike-at_end, spans_of_places}, specs.Footprints.CallCounts.{span_count}}
use Rattle.tuner_theory.specs.{Lists.{lists_of}, Rows.{number_at}}
use Rattle.class_tuner.proofs.fits.place_filling.fill_all.Goals as goal

-- spans between so few places
spans-few : (n : ℕ) → n ≤ MOST_NEEDS → span_count n ≤ 1048576
spans-few n few = grind arith

pub loop-i-init : goal.loop-i-init
loop-i-init g c =
    let d = c.places-places.result in
    let is = c.places-places.ensures in
    let none : d - d ≡ 0 = omega arith in
    record {
      from_length = rw is c.requires.memory.from;
      older_length = rw is c.requires.memory.older;
      from_are = λ j after le. absurd (omega arith);
      ready = rw is (ready-at_end c.args.memory.from.items (g.C.SpanCosts.place_count c.args.costs.now) c.args.limit
          (lists_of c.args.rows.now) (lists_of c.args.ends.now) c.args.memory c.requires.memory c.requires.rows);
      least = omega arith;
      alike = rw is (alike-at_end (lists_of c.args.rows.now) c.args.limit (g.C.SpanCosts.place_count c.args.costs.now)
          c.requires.rows.rows_shape);
      counted = rw none (sym (g.met.C.SpanCosts.adds_none _));
    }

pub write_from-requires : goal.write_from-requires
write_from-requires g c =
    let counted = c.loop-i.invariant.counted in
    let same_places = ap g.C.SpanCosts.place_count counted ∙ g.met.C.SpanCosts.keeps_places _ _ in
    let calls = ap g.C.SpanCosts.call_count counted ∙ g.met.C.SpanCosts.adds_calls _ _ in
    grind (arith, spans-few)

pub fill_next-alike-requires : goal.fill_next-alike-requires
fill_next-alike-requires g c =
    let d = c.places-places.result in
    let i : ℕ = c.loop-i.i - 1 in
    let cost = g.C.SpanCosts.cost c.args.costs.now in
    let counted = c.loop-i.invariant.counted in
    let same_places = ap g.C.SpanCosts.place_count counted ∙ g.met.C.SpanCosts.keeps_places _ _ in
    let same_cost : g.C.SpanCosts.cost c.loop-i.costs ≡ cost = ap g.C.SpanCosts.cost counted ∙ g.met.C.SpanCosts.keeps_cost _ _ in
    let next : i + 1 ≡ c.loop-i.i = omega arith in
    let spare : length c.swap.new.x.items ≡ d + 1 =
    ap (λ (v : Vec ℕ Global). length v.items) c.swap.ensures.x_after ∙ c.loop-i.invariant.older_length in
    let written_size : length c.write_from.new.costs ≡ d + 1 =
    c.write_from.ensures.size ∙ (ap length c.deref_mut.ensures.value ∙ spare) in
    let costs = c.deref-in-loop-i.ensures.value ∙ with_items_is c.swap.new.x c.write_from.new.costs (omega (arith, written_size, spare)) in
    let are : (j : ℕ) → i < j → j ≤ d → slice_index c.write_from.new.costs j ≡ cost i j =
    (λ j after le. c.write_from.ensures.costs j after (omega (arith, same_places))
    ∙ ap (λ (its : ℕ → ℕ → ℕ). its i j) same_cost) in
    let older : c.deref.result.now ≡ c.loop-i.from.items =
    c.deref.ensures.value ∙ ap (λ (v : Vec ℕ Global). v.items) c.swap.ensures.y_after in
    rw (costs, older, c.deref_mut-in-loop-i.ensures.value, c.deref_mut-in-loop-i-2.ensures.value, next) (record {
      some = c.requires.some;
      few = c.requires.few;
      costs = costs-from cost d i c.loop-i.from.items c.write_from.new.costs (omega arith) written_size are
          (λ j after le. g.met.C.SpanCosts.is_small c.args.costs.now i j after (omega arith));
      older = costs-older cost d i c.loop-i.from.items c.write_from.new.costs (omega arith) written_size are
          (λ a x y b ax xy yb bd. g.met.C.SpanCosts.grows c.args.costs.now a x y b ax xy yb (omega arith)) c.loop-i.invariant.from_length
          (rw next c.loop-i.invariant.from_are);
      ready = c.loop-i.invariant.ready;
      alike = c.loop-i.invariant.alike;
    })

pub loop-i-preserved : goal.loop-i-preserved
loop-i-preserved g c =
    let d = c.places-places.result in
    let i : ℕ = c.loop-i.i - 1 in
    let cost = g.C.SpanCosts.cost c.args.costs.now in
    let counted = c.loop-i.invariant.counted in
    let same_places = ap g.C.SpanCosts.place_count counted ∙ g.met.C.SpanCosts.keeps_places _ _ in
    let same_cost : g.C.SpanCosts.cost c.loop-i.costs ≡ cost = ap g.C.SpanCosts.cost counted ∙ g.met.C.SpanCosts.keeps_cost _ _ in
    let next : i + 1 ≡ c.loop-i.i = omega arith in
    let before : suc (d - c.loop-i.i) ≡ d - i = omega arith in
    let more : span_count (d - c.loop-i.i) + (g.C.SpanCosts.place_count c.loop-i.costs - i) ≡ span_count (d - i) =
    omega (arith, same_places, spans_of_places (d - c.loop-i.i), ap span_count before) in
    let spare : length c.swap.new.x.items ≡ d + 1 =
    ap (λ (v : Vec ℕ Global). length v.items) c.swap.ensures.x_after ∙ c.loop-i.invariant.older_length in
    let written_size : length c.write_from.new.costs ≡ d + 1 =
    c.write_from.ensures.size ∙ (ap length c.deref_mut.ensures.value ∙ spare) in
    let from = with_items_is c.swap.new.x c.write_from.new.costs (omega (arith, written_size, spare)) in
    let slack = with_items_is c.loop-i.slack c.fill_next-alike.new.slack
    (omega (arith, c.fill_next-alike.auto.slack, ap length c.deref_mut-in-loop-i.ensures.value)) in
    let bounds = with_items_is c.loop-i.bounds c.fill_next-alike.new.bounds
    (omega (arith, c.fill_next-alike.auto.bounds, ap length c.deref_mut-in-loop-i-2.ensures.value)) in
    let are : (j : ℕ) → i < j → j ≤ d → slice_index c.write_from.new.costs j ≡ cost i j =
    (λ j after le. c.write_from.ensures.costs j after (omega (arith, same_places))
    ∙ ap (λ (its : ℕ → ℕ → ℕ). its i j) same_cost) in
    let costs : c.deref-in-loop-i.result.now ≡ c.write_from.new.costs = c.deref-in-loop-i.ensures.value ∙ from in
    let later : AreLeastRowsFrom cost d c.args.limit (i + 1) (number_at (lists_of c.loop-i.rows)) (number_at (lists_of c.loop-i.ends)) =
    rw next c.loop-i.invariant.least in
    rw (from, slack, bounds) (record {
      from_length = written_size;
      older_length = ap (λ (v : Vec ℕ Global). length v.items) c.swap.ensures.y_after ∙ c.loop-i.invariant.from_length;
      from_are = are;
      ready = rw costs at c.fill_next-alike.ensures.ready;
      least = rows-from cost c.write_from.new.costs d c.args.limit i (lists_of c.loop-i.rows) (lists_of c.fill_next-alike.new.rows)
          (lists_of c.loop-i.ends) (lists_of c.fill_next-alike.new.ends) (omega arith) are later
          (rw costs at c.fill_next-alike.ensures.filled);
      alike = c.fill_next-alike.ensures.alike;
      counted = c.write_from.ensures.counted
          ∙ (ap (λ its. g.C.SpanCosts.after_calls its (g.C.SpanCosts.place_count c.loop-i.costs - i)) counted
          ∙ (g.met.C.SpanCosts.adds_up _ _ _ ∙ ap (g.C.SpanCosts.after_calls c.args.costs.now) more));
    })

pub returns : goal.returns
returns g c =
    let done : c.loop-i.i ≡ 0 = omega arith in
    let all : c.places-places.result - 0 ≡ c.places-places.result = omega arith in
    rw (← c.places-places.ensures) (record {
      filled = all-filled _ c.places-places.result c.args.limit (lists_of c.loop-i.rows) (lists_of c.loop-i.ends)
          c.loop-i.invariant.ready.rows (rw done at c.loop-i.invariant.least);
      counted = rw (done, all) at c.loop-i.invariant.counted;
    })

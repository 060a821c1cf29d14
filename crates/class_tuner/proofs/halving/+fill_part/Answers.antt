use Rattle.std.proofs.Common.{rules, ◌≡◌, ℕ, ◌+◌, ◌-◌, ◌/◌, ◌<◌, slice_index, slice_set, add-one, arith, refl, sym, ◌∙◌, inl, inr}
use Rattle.std.proofs.lemmas.List.{get_or-set_same}
use Rattle.class_tuner.proofs.{Halves.{between-left, between-right}, PartCalls.{calls-none, calls-of_part}}
use Rattle.class_tuner.specs.Filling.{AreEndsBetween}
use Rattle.class_tuner.proofs.halving.+fill_part.Goals as goal

pub least_end-cost-requires-clause-between : goal.least_end-cost-requires-clause-between
least_end-cost-requires-clause-between g t c = λ e least.
    let part = c.args.part in
    let inside = c.requires.between (part.start + (part.end - part.start) / 2) (omega arith) (omega arith) e least in
    (omega (arith, least.from, inside.0), inside.1)

pub fill_part-requires : goal.fill_part-requires
fill_part-requires g t c κs within =
    let part = c.args.part in
    let middle : ℕ = part.start + (part.end - part.start) / 2 in
    let end = c.least_end-cost.result.1 in
    let asked = c.least_end-cost.new.costs in
    let between : AreEndsBetween (g.C.CostSource.cost asked) (g.C.CostSource.place_count asked) c.args.before.now part.start middle
    c.args.window.low end =
    let here = c.least_end-cost.ensures.only_counts in
    rw (here.same_cost, here.same_places)
    (between-left (g.C.CostSource.cost c.args.costs.now) (g.C.CostSource.place_count c.args.costs.now)
    (g.met.C.CostSource.is_crossing c.args.costs.now) c.args.before.now part.start part.end c.args.window.low c.args.window.high middle end
    c.requires.between c.least_end-cost.ensures.least.least (omega arith)) in
    search (rules, between)

pub fill_part-requires-then-part : goal.fill_part-requires-then-part
fill_part-requires-then-part g t c κs within =
    let part = c.args.part in
    let middle : ℕ = part.start + (part.end - part.start) / 2 in
    let end = c.least_end-cost.result.1 in
    let asked = c.fill_part.new.costs in
    let here = c.least_end-cost.ensures.only_counts in
    let left = c.fill_part.ensures.only_counts in
    let between : AreEndsBetween (g.C.CostSource.cost asked) (g.C.CostSource.place_count asked) c.args.before.now (middle + 1) part.end end
    c.args.window.high =
    rw (left.same_cost, left.same_places, here.same_cost, here.same_places, add-one)
    (between-right (g.C.CostSource.cost c.args.costs.now) (g.C.CostSource.place_count c.args.costs.now)
    (g.met.C.CostSource.is_crossing c.args.costs.now) c.args.before.now part.start part.end c.args.window.low c.args.window.high middle end
    c.requires.between c.least_end-cost.ensures.least.least (omega arith)) in
    search (rules, between)

pub returns-then-part-eq1-clause-calls : goal.returns-then-part-eq1-clause-calls
returns-then-part-eq1-clause-calls g t c =
    let part = c.args.part in
    let middle : ℕ = part.start + (part.end - part.start) / 2 in
    let end = c.least_end-cost.result.1 in
    let ends = slice_set c.args.ends.now middle end in
    let asked : ℕ = g.C.CostSource.call_count c.least_end-cost.new.costs in
    calls-of_part ends ends part c.args.window middle c.max-first.result end (g.C.CostSource.call_count c.args.costs.now) asked asked asked
    (omega arith) refl (omega arith) c.least_end-cost.ensures.inside.0 c.least_end-cost.ensures.inside.1 (omega arith)
    c.least_end-cost.ensures.counted (get_or-set_same c.args.ends.now middle end 0 (omega arith)) (λ i from below. refl)
    (calls-none ends (record { start = part.start; end = middle }) (record { low = c.args.window.low; high = end }) asked (omega arith))
    (calls-none ends (record { start = middle + 1; end = part.end }) (record { low = end; high = c.args.window.high }) asked (omega arith))

pub returns-else-part-eq1-clause-calls : goal.returns-else-part-eq1-clause-calls
returns-else-part-eq1-clause-calls g t c =
    let part = c.args.part in
    let middle : ℕ = part.start + (part.end - part.start) / 2 in
    let some : part.start < part.end = omega arith in
    let end = c.least_end-cost.result.1 in
    let kept = c.fill_part-then-part.ensures.kept.ends_kept in
    let is : slice_index c.fill_part-then-part.new.ends middle ≡ end =
    kept middle (inl (omega arith))
    ∙ (c.fill_part.ensures.kept.ends_kept middle (inr (omega arith)) ∙ get_or-set_same c.args.ends.now middle end 0 (omega arith)) in
    calls-of_part c.fill_part.new.ends c.fill_part-then-part.new.ends part c.args.window middle c.max-first.result end
    (g.C.CostSource.call_count c.args.costs.now) (g.C.CostSource.call_count c.least_end-cost.new.costs)
    (g.C.CostSource.call_count c.fill_part.new.costs) (g.C.CostSource.call_count c.fill_part-then-part.new.costs)
    some refl (omega arith) c.least_end-cost.ensures.inside.0 c.least_end-cost.ensures.inside.1 (omega arith)
    c.least_end-cost.ensures.counted is (λ i from below. sym (kept i (inl (omega arith)))) c.fill_part.ensures.calls
    c.fill_part-then-part.ensures.calls

pub returns-else-part-clause-calls : goal.returns-else-part-clause-calls
returns-else-part-clause-calls g t c = calls-none c.args.ends.now c.args.part c.args.window _ (omega arith)

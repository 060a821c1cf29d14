use Rattle.std.proofs.{Common.{◌∙◌, length, arith, ap}, lemmas.List.{with_items_is}}
use Rattle.class_tuner.{proofs.CallCounts.{below-bits}, proofs.Rows.{row-next}, proofs.Tried.{tried-none}}
use Rattle.class_tuner.{proofs.row_filling.next_row.Goals.{then-places-gt0, else-places-gt0}, specs.declared.row_filling.Row.{Row}}
use Rattle.class_tuner.proofs.row_filling.next_row.Goals as goal

pub returns-clause-bounded : goal.returns-clause-bounded
returns-clause-bounded g c = grind (arith, below-bits)

pub returns-clause-exact : goal.returns-clause-exact
returns-clause-exact g c =
    let d = c.places-places.result in
    elim c.if-places-gt0.branch [
      | then-places-gt0 w ↦ grind (arith, below-bits, with_items_is)
      | else-places-gt0 w ↦ grind (arith, tried-none)
    ]

pub returns-clause-next : goal.returns-clause-next
returns-clause-next g c =
    rw (← c.places-places.ensures) (elim c.if-places-gt0.branch [
      | then-places-gt0 w ↦ (let costs = with_items_is c.in_ok-row.row.costs w.fill_part.new.row (omega (arith, w.fill_part.auto.row)) in
          let ends = with_items_is c.in_ok-row.row.ends w.fill_part.new.ends (omega (arith, w.fill_part.auto.ends)) in
          row-next (g.C.CostSource.cost c.args.costs.now) c.places-places.result c.args.before.now c.if-places-gt0.row
          w.fill_part.new.row w.fill_part.new.ends (ap (λ (r : Row). r.costs.items) w.row-is ∙ costs)
          (ap (λ (r : Row). r.ends.items) w.row-is ∙ ends)
          (w.fill_part.auto.row ∙ (ap length w.deref_mut.ensures.value ∙ c.in_ok-row.ensures.costs_length))
          (w.fill_part.auto.ends ∙ (ap length w.deref_mut-then-places-gt0.ensures.value ∙ c.in_ok-row.ensures.ends_length))
          (rw (← c.places-places.ensures) at w.fill_part.ensures.filled))
      | else-places-gt0 w ↦ grind arith
    ])

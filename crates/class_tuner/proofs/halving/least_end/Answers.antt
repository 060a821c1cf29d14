use Rattle.class_tuner.{proofs.LeastEnds.{least_end-of_window}, specs.Filling.{end_cost}}
use Rattle.class_tuner.proofs.halving.least_end.Goals as goal

pub returns-clause-least : goal.returns-clause-least
returns-clause-least g c = record {
  least = least_end-of_window (end_cost (g.C.CostSource.cost c.args.costs.now) c.args.before.now c.args.place) c.args.place
      (g.C.CostSource.place_count c.args.costs.now) c.args.low c.args.high c.least_end.result.1
      c.requires.window.after c.requires.window.within c.least_end.ensures.least c.requires.between;
  number_is = c.least_end.ensures.value;
}

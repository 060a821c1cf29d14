use Rattle.std.proofs.Common.{refl}
use Rattle.class_tuner.proofs.costs.CostsCostSource.at.Goals as goal

pub returns-clause-cost : goal.returns-clause-cost
returns-clause-cost c = c.waste.ensures.waste

pub returns-clause-counted : goal.returns-clause-counted
returns-clause-counted c = refl

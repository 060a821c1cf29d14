use Rattle.tuner_theory.proofs.{Bound.{potentials_bound_costs}, BoundRests.{rests-bound, waste-rest}, Rounding.{step-positive}}
use Rattle.tuner_theory.proofs.Tables.{waste-cost, waste-sum}
use Rattle.tuner_theory.proofs.laws.law_potentials_bound.Goals as goal

pub returns-clause-bound : goal.returns-clause-bound
returns-clause-bound c counts step limit potential classes is_step valid =
    let pos = step-positive step is_step in
    potentials_bound_costs _ _ counts step limit potential classes pos (waste-sum counts step pos) valid

pub returns-clause-everywhere : goal.returns-clause-everywhere
returns-clause-everywhere c counts step limit potential k i classes is_step valid =
    let pos = step-positive step is_step in
    rests-bound counts step pos _ (waste-cost counts step) limit potential valid _ _ i (waste-rest counts step pos i) k classes

use Rattle.std.proofs.Common.{ap, ◌∙◌}
use Rattle.class_tuner.proofs.SourceChanges.{kept-at}
use Rattle.class_tuner.proofs.row_filling.ask.Goals as goal

pub returns-clause-counted : goal.returns-clause-counted
returns-clause-counted g c = ap g.C.CostSource.call_count c.at.ensures.counted ∙ g.met.C.CostSource.sets_calls _ _

pub returns-clause-only_counts : goal.returns-clause-only_counts
returns-clause-only_counts g c = record {
  kept = kept-at g.C.CostSource _ _ _ (g.met.C.CostSource.sets_calls _ _) c.at.ensures.counted;
  same_cost = ap g.C.CostSource.cost c.at.ensures.counted ∙ g.met.C.CostSource.keeps_cost _ _;
  same_places = ap g.C.CostSource.place_count c.at.ensures.counted ∙ g.met.C.CostSource.keeps_places _ _;
}

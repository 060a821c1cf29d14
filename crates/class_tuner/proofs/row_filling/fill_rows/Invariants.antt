use Rattle.std.proofs.Common.{◌≡◌, ◌+◌, ◌≤◌}
use Rattle.class_tuner.specs.{CallCounts.{calls_of, most_calls}, SourceChanges.{OnlyCounts}}
use Rattle.tuner_theory.specs.{Lists.{lists_of}, Rows.{IsFilled, number_at}}
use Rattle.class_tuner.proofs.row_filling.fill_rows.Given as goal

abbrev pub invariant-loop-k : goal.invariant-loop-k
invariant-loop-k g l = record {
  filled : IsFilled (g.C.CostSource.cost l.fn.costs) (g.C.CostSource.place_count l.fn.costs) l.k
      (lists_of l.filled.rows.items) (lists_of l.filled.ends.items);
  bounded : g.C.CostSource.call_count l.costs
      ≤ g.C.CostSource.call_count l.fn.costs + most_calls l.k (g.C.CostSource.place_count l.fn.costs);
  exact : g.C.CostSource.call_count l.costs
      ≡ g.C.CostSource.call_count l.fn.costs
      + calls_of (number_at (lists_of l.filled.ends.items)) (g.C.CostSource.place_count l.fn.costs) l.k;
  only_counts : OnlyCounts g.C.CostSource l.fn.costs l.costs;
}

use Rattle.std.proofs.Common.{◌≡◌, ◌+◌, ◌≤◌}
use Rattle.class_tuner.specs.Filling.{end_cost}
use Rattle.tuner_theory.specs.Rows.{IsLeastWithin}
use Rattle.class_tuner.proofs.cost_source.CostSource.least_end.Given as goal

abbrev pub invariant-loop-j : goal.invariant-loop-j
invariant-loop-j g l = record {
  least : IsLeastWithin (end_cost (g.Self.CostSource.cost l.fn.self) l.before l.place) l.j l.high l.end;
  value : l.least ≡ end_cost (g.Self.CostSource.cost l.fn.self) l.before l.place l.end;
  order : l.low ≤ l.j;
  counted : g.Self.CostSource.call_count l.self + l.j ≡ g.Self.CostSource.call_count l.fn.self + l.high + 1;
  kept : l.self ≡ g.Self.CostSource.with_calls l.fn.self (g.Self.CostSource.call_count l.self);
  same_cost : g.Self.CostSource.cost l.self ≡ g.Self.CostSource.cost l.fn.self;
  same_places : g.Self.CostSource.place_count l.self ≡ g.Self.CostSource.place_count l.fn.self;
}

-- What calls change in a source of costs: its count of calls, and nothing else.
use Rattle.std.specs.Prelude.{◌≡◌}
use Rattle.class_tuner.specs.declared.cost_source.CostSource.{Ghosts}

-- Calls changed a source's count of calls, and nothing else in it.
pub record OnlyCounts {S : Type 0} (source : Ghosts S) (old new : S) : Type 0 where
  pub kept : new ≡ source.with_calls old (source.call_count new)
  pub same_cost : source.cost new ≡ source.cost old
  pub same_places : source.place_count new ≡ source.place_count old

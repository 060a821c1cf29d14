use Rattle.std.proofs.Common.{◌≡◌, ℕ, ◌+◌, ◌<◌, length, slice_index}
use Rattle.class_tuner.specs.SourceChanges.{OnlyCounts}
use Rattle.class_tuner.proofs.row_filling.fill_first.Given as goal

abbrev pub invariant-loop-i : goal.invariant-loop-i
invariant-loop-i g l = record {
  length : length l.row ≡ length l.fn.row;
  costs : (i : ℕ) → i < l.i → slice_index l.row i ≡ g.C.CostSource.cost l.fn.costs i l.places;
  counted : g.C.CostSource.call_count l.costs ≡ g.C.CostSource.call_count l.fn.costs + l.i;
  only_counts : OnlyCounts g.C.CostSource l.fn.costs l.costs;
}

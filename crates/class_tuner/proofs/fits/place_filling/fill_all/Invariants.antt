use Rattle.std.proofs.Common.{◌≡◌, ◌+◌, ◌-◌, ◌<◌, ◌≤◌, ℕ, length, slice_index}
use Rattle.class_tuner.specs.Fits.PlaceByPlace.{AreLeastRowsFrom, AreReady}
use Rattle.potential_check.specs.Footprints.{AlikeRows.{AreAlikeFrom}, CallCounts.{span_count}}
use Rattle.tuner_theory.specs.{Lists.{lists_of}, Rows.{number_at}}
use Rattle.class_tuner.proofs.fits.place_filling.fill_all.Given as goal

abbrev pub invariant-loop-i : goal.invariant-loop-i
invariant-loop-i g l = record {
  from_length : length l.from.items ≡ l.places + 1;
  older_length : length l.older.items ≡ l.places + 1;
  from_are : (j : ℕ) → l.i < j → j ≤ l.places → slice_index l.from.items j ≡ g.C.SpanCosts.cost l.fn.costs l.i j;
  ready : AreReady l.from.items l.slack.items l.i l.places l.limit (lists_of l.rows) (lists_of l.ends) (lists_of l.bounds.items);
  least : AreLeastRowsFrom (g.C.SpanCosts.cost l.fn.costs) l.places l.limit l.i (number_at (lists_of l.rows)) (number_at (lists_of l.ends));
  alike : AreAlikeFrom (number_at (lists_of l.rows)) l.limit l.i l.alike;
  counted : l.costs ≡ g.C.SpanCosts.after_calls l.fn.costs (span_count (l.places - l.i));
}

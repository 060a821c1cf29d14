use Rattle.std.proofs.Common.{◌≡◌, ◌+◌, ◌-◌, ◌<◌, ◌≤◌, ℕ, length, slice_index}
use Rattle.potential_check.specs.Footprints.AlikeRows.{AreAlikeFrom}
use Rattle.potential_check.specs.Footprints.{Bounds.{AreRowBounds, IsSlack}, CallCounts.{span_count}, RowConditions.{AreTestsFrom}}
use Rattle.tuner_theory.specs.{Lists.{lists_of}, Rows.{number_at}}
use Rattle.potential_check.proofs.footprints.row_tests.tests_of.Given as goal

abbrev pub invariant-loop-i : goal.invariant-loop-i
invariant-loop-i g l = record {
  tests : AreTestsFrom (g.C.SpanCosts.cost l.fn.costs) l.places l.rows l.i l.tests;
  from_length : length l.from.items ≡ l.places + 1;
  older_length : length l.older.items ≡ l.places + 1;
  from_are : (j : ℕ) → l.i < j → j ≤ l.places → slice_index l.from.items j ≡ g.C.SpanCosts.cost l.fn.costs l.i j;
  slack : IsSlack l.places l.slack;
  bounds : AreRowBounds l.from.items l.slack l.i l.places (length l.rows) (number_at l.rows) (lists_of l.bounds);
  alike : AreAlikeFrom (number_at l.rows) (length l.rows) l.i l.alike;
  counted : l.costs ≡ g.C.SpanCosts.after_calls l.fn.costs (span_count (l.places - l.i));
}

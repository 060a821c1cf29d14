-- How large the totals are.
use Rattle.std.specs.Prelude.{◌*◌, ◌^◌, ◌≤◌}
use Rattle.class_table.specs.Sizes.{largest_counted}
use Rattle.replay_theory.specs.Totals.{Totals}

-- Each total is at most the number of events, and the loss at most the largest counted size for each request. There are at most 2^40 events.
pub record AreBounded (t : Totals) : Type 0 where
  pub events : t.events ≤ 2 ^ 40
  pub requests : t.requests ≤ t.events
  pub null_large : t.null_large ≤ t.events
  pub null_no_class : t.null_no_class ≤ t.events
  pub null_exhausted : t.null_exhausted ≤ t.events
  pub faults_tag : t.faults_tag ≤ t.events
  pub faults_unmapped : t.faults_unmapped ≤ t.events
  pub refused_frees : t.refused_frees ≤ t.events
  pub loss : t.loss ≤ largest_counted * t.requests

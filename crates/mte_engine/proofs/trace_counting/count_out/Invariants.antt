use Rattle.std.proofs.Common.{◌≡◌, ◌++◌, ◌+◌, ◌≤◌, List, ℕ, length}
use Rattle.replay_theory.specs.Losses.{requested_sizes}
use Rattle.trace_event.specs.declared.event.Event.{Event}
use Rattle.profile_count.specs.Requests.{profile_of_sizes}
use Rattle.mte_engine.proofs.trace_counting.count_out.Given as goal

abbrev pub invariant-loop-event : goal.invariant-loop-event
invariant-loop-event l = (taken : List Event) × record {
  parts : l.fn.reader.events ≡ taken ++ l.reader.events;
  state : l.reader.state ≡ l.fn.reader.state;
  counted : (sizes : List ℕ) → length sizes + length l.fn.reader.events ≤ 1000000 → l.fn.profile ≡ profile_of_sizes sizes
      → l.profile ≡ profile_of_sizes (sizes ++ requested_sizes taken);
}

abbrev pub decreases-loop-event : goal.decreases-loop-event
decreases-loop-event l = length l.reader.events

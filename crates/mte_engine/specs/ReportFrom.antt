-- What is still to be reported in a replay.
use Rattle.std.specs.Prelude.{ℕ, ◌+◌, ◌≤◌, ◌^◌, Bool, true, false, List, [], ◌∷◌, ◌++◌, length}
use Rattle.replay_theory.specs.{Replay.{answer_of}, Report.{report_line, totals_text}}
use Rattle.trace_event.specs.declared.event.Event.{Event}
use Rattle.replay_core.specs.ReplayState.{Stored, stored_after}

-- The lines of the events that are still to come, and then the totals after all of them.
unfoldable pub report_from : Stored → List Event → List ℕ
report_from stored [] = totals_text stored.totals
report_from stored (event ∷ events) =
    report_line (stored.totals.events + 1) (answer_of stored.replay event) ++ report_from (stored_after stored event) events

-- The same, where the totals may have been reported already.
abbrev pub report_unless : Bool → Stored → List Event → List ℕ
report_unless false stored events = report_from stored events
report_unless true stored events = []

-- The events that were replayed, and those that are still to come, are few enough for the totals.
abbrev pub AreFewEvents : Stored → List Event → Type 0
AreFewEvents stored events = stored.totals.events + length events ≤ 2 ^ 40

-- A trace's text: a line for each event.
use Rattle.std.specs.Prelude.{◌≤◌, ℕ, suc, List, [], ◌∷◌, length, map, Option, Some, None, Result, Ok, Err, All}
use Rattle.line_text.specs.Lines.{IsTextOf, lines}
use Rattle.trace_event.specs.{Ranges.{IsInRange}, declared.event.Event.{Event}}
use Rattle.trace_reader.specs.{TraceLine.{event_line, event_of_line, most_events}, declared.fault.TraceFault.{TraceFault}}

-- ---- the spelling

-- The text spells these events, its last line with its newline or without.
pub record SpellsTrace (text : List ℕ) (events : List Event) : Type 0 where
  pub few : length events ≤ most_events
  pub ranges : All IsInRange events
  pub spelled : IsTextOf text (map event_line events)

-- ---- reading

-- The events of the lines before the first faulty one, and that line's number and fault; no fault where all lines spell events.
pub record Trace : Type 0 where
  pub events : List Event
  pub fault : Option (ℕ × TraceFault)

abbrev pub no_lines : Trace
no_lines = record { events = []; fault = None }

abbrev pub with_line : ℕ → Result Event TraceFault → Trace → Trace
with_line number (Ok event) trace = record { events = event ∷ trace.events; fault = trace.fault }
with_line number (Err fault) trace = record { events = []; fault = Some (number, fault) }

-- The trace of lines of which the first has this number.
unfoldable pub trace_from : ℕ → List (List ℕ) → Trace
trace_from number [] = no_lines
trace_from number (line ∷ ls) = with_line number (event_of_line number line) (trace_from (suc number) ls)

-- The trace that a text is. Its lines are counted from 1.
abbrev pub trace_of : List ℕ → Trace
trace_of text = trace_from 1 (lines text)

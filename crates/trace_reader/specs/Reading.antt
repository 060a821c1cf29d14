-- A trace that comes in pieces: what has been read of it, and what one more piece and its end make of that.
use Rattle.std.specs.Prelude.{ℕ, suc, ◌+◌, Bool, true, false, List, [], ◌∷◌, ◌++◌, length, Option, Some, None, Result, Ok, Err, nat_lt}
use Rattle.std.specs.Prelude.{if◌then◌else◌, IfOk, ◌<◌, ⊤}
use Rattle.line_text.specs.Lines.{is_newline}
use Rattle.trace_event.specs.{Ranges.{IsInRange}, declared.event.Event.{Event}}
use Rattle.trace_reader.specs.{TraceLine.{event_of_line, longest_line, most_events}, TraceText.{Trace, no_lines, with_line, trace_from}}
use Rattle.trace_reader.specs.declared.fault.{TraceError.{TraceError}, TraceError.TheVariants.{Line}, TraceFault.{TraceFault}}
use Rattle.trace_reader.specs.declared.fault.TraceFault.TheVariants.{LineTooLong}

-- ---- whole lines

-- A text cut at its newlines: the lines that have one, without it, and the bytes after the last newline.
pub record Cut : Type 0 where
  pub whole : List (List ℕ)
  pub unfinished : List ℕ

abbrev pub line_in_front : List ℕ → Cut → Cut
line_in_front line c = record { whole = line ∷ c.whole; unfinished = c.unfinished }

-- Bytes before the first line, whether that is whole or not.
abbrev pub bytes_in_front : List ℕ → List (List ℕ) → List ℕ → Cut
bytes_in_front front [] unfinished = record { whole = []; unfinished = front ++ unfinished }
bytes_in_front front (line ∷ ls) unfinished = record { whole = (front ++ line) ∷ ls; unfinished = unfinished }

abbrev pub going_on : List ℕ → Cut → Cut
going_on front c = bytes_in_front front c.whole c.unfinished

unfoldable pub cut : List ℕ → Cut
cut [] = record { whole = []; unfinished = [] }
cut (b ∷ text) = if is_newline b then line_in_front [] (cut text) else going_on (b ∷ []) (cut text)

-- ---- what has been read

-- The state of a reading: open, after a number of whole lines, with the bytes of the unfinished line; failed, with its error; or finished.
pub data State : Type 0 where
  Open : (lines : ℕ) (rest : List ℕ) → State
  Failed : TraceError → State
  Finished : State

-- The events that were read and not yet taken out, and the state of the reading.
pub record Reading : Type 0 where
  pub events : List Event
  pub state : State

abbrev pub nothing_read : Reading
nothing_read = record { events = []; state = Open 0 [] }

abbrev pub is_finished_state : State → Bool
is_finished_state Finished = true
is_finished_state other = false

abbrev pub is_finished : Reading → Bool
is_finished reading = is_finished_state reading.state

-- ---- one more piece

abbrev pub added : List Event → Reading → Reading
added events reading = record { events = events ++ reading.events; state = reading.state }

-- After whole lines without a fault: an unfinished line that is too long already is faulty.
abbrev pub unfinished_state : ℕ → List ℕ → State
unfinished_state lines rest = if nat_lt longest_line (length rest) then Failed (Line (suc lines) LineTooLong) else Open lines rest

abbrev pub state_after : ℕ → List ℕ → Option (ℕ × TraceFault) → State
state_after lines rest None = unfinished_state lines rest
state_after lines rest (Some (number, fault)) = Failed (Line number fault)

-- The whole lines are judged up to the first fault, and the unfinished one is kept.
abbrev pub reading_of_cut : ℕ → Cut → Reading
reading_of_cut lines c =
    let trace = trace_from (suc lines) c.whole in
    record { events = trace.events; state = state_after (lines + length c.whole) c.unfinished trace.fault }

-- What is read after an error or the end: nothing more.
abbrev pub no_more : State → Reading
no_more state = record { events = []; state = state }

-- The piece goes on with the unfinished line.
abbrev pub fed_in : State → List ℕ → Reading
fed_in (Open lines rest) piece = reading_of_cut lines (going_on rest (cut piece))
fed_in other piece = no_more other

unfoldable pub fed : Reading → List ℕ → Reading
fed reading piece = added reading.events (fed_in reading.state piece)

-- All pieces, one after the other.
abbrev pub fed_all : Reading → List (List ℕ) → Reading
fed_all reading [] = reading
fed_all reading (piece ∷ pieces) = fed_all (fed reading piece) pieces

-- ---- one line, as the reader's inner calls say it

abbrev pub is_open_state : State → Bool
is_open_state (Open lines rest) = true
is_open_state other = false

abbrev pub is_open : Reading → Bool
is_open reading = is_open_state reading.state

-- The reading is open at the start of a line: it has nothing of an unfinished one.
abbrev pub is_start : State → Bool
is_start (Open lines []) = true
is_start other = false

abbrev pub is_at_start : Reading → Bool
is_at_start reading = is_start reading.state

-- The reading after the unfinished line was judged.
abbrev pub judged_in : State → Result Event TraceFault → Reading
judged_in (Open lines rest) (Ok event) = record { events = event ∷ []; state = Open (suc lines) [] }
judged_in (Open lines rest) (Err fault) = record { events = []; state = Failed (Line (suc lines) fault) }
judged_in other judged = no_more other

unfoldable pub with_judged : Reading → Result Event TraceFault → Reading
with_judged reading judged = added reading.events (judged_in reading.state judged)

-- What the unfinished line is judged to be where it goes on by these bytes and then ends; some fault where no more is read.
abbrev pub judgement_in : State → List ℕ → Result Event TraceFault
judgement_in (Open lines rest) end = event_of_line (suc lines) (rest ++ end)
judgement_in other end = Err LineTooLong

abbrev pub line_ended : Reading → List ℕ → Reading
line_ended reading end = with_judged reading (judgement_in reading.state end)

-- If the next line was judged to be an event, its numbers are in their ranges, and the trace has room for it.
abbrev pub IsJudgementIn : State → Result Event TraceFault → Type 0
IsJudgementIn (Open lines rest) judged = IfOk judged (λ event. IsInRange event × (lines < most_events))
IsJudgementIn other judged = ⊤

-- ---- the end of the text

abbrev pub ended_state : Option (ℕ × TraceFault) → State
ended_state None = Finished
ended_state (Some (number, fault)) = Failed (Line number fault)

-- A trace, as a reading that has come to its end or to its fault.
abbrev pub whole_reading : Trace → Reading
whole_reading trace = record { events = trace.events; state = ended_state trace.fault }

-- The unfinished line, where there is one, is the last line.
abbrev pub last_line : ℕ → List ℕ → Trace
last_line lines [] = no_lines
last_line lines (b ∷ rest) = with_line (suc lines) (event_of_line (suc lines) (b ∷ rest)) no_lines

abbrev pub finished_in : State → Reading
finished_in (Open lines rest) = whole_reading (last_line lines rest)
finished_in other = no_more other

unfoldable pub finished : Reading → Reading
finished reading = added reading.events (finished_in reading.state)

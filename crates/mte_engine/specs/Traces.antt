-- The trace in an input, and what the engines over traces keep of it while they read.
use Rattle.std.specs.Prelude.{◌≡◌, ℕ, ◌+◌, Bool, true, false, List, [], ◌∷◌, ◌++◌, Option, Some, None, Result, Ok, Err, ⊤, drop}
use Rattle.std.specs.Prelude.{slice_index_or}
use Rattle.line_text.specs.Lines.{lines, IsLine}
use Rattle.replay_theory.specs.Losses.{requested_sizes}
use Rattle.trace_event.specs.declared.event.Event.{Event}
use Rattle.profile_count.specs.Requests.{profile_of_sizes}
use Rattle.trace_reader.specs.{Reading.{Reading, State, fed, nothing_read}, Reading.State.{Failed, Finished}}
use Rattle.trace_reader.specs.{TraceText.{Trace as TraceRead}, declared.fault.TraceError.TheVariants.{Line}}
use Rattle.trace_reader.specs.declared.fault.TraceFault.{TraceFault}
use Rattle.tuner_theory.specs.Profiles.{Profile as Counted}
use Rattle.mte_engine.specs.declared.fault.{AnswerError.{AnswerError}, AnswerError.TheVariants.{OutOfMemory, Input}}
use Rattle.mte_engine.specs.declared.fault.{InputFault.{InputFault}, InputFault.TheVariants.{Trace}}

-- ---- the part of an input

abbrev pub events_unless : ℕ → List Event → Option (ℕ × TraceFault) → Result (List Event) InputFault
events_unless lines events None = Ok events
events_unless lines events (Some (number, fault)) = Err (Trace (lines + number) fault)

-- The events of a trace that follows this many lines of its input, or its first fault.
abbrev pub trace_part : ℕ → TraceRead → Result (List Event) InputFault
trace_part lines trace = events_unless lines trace.events trace.fault

-- How a trace that follows this many lines ended: without a fault, or at its first one; unless memory ran out.
abbrev pub HasEnded : ℕ → State → Result (Unit {0}) AnswerError → Type 0
HasEnded lines state (Ok done) = state ≡ Finished
HasEnded lines state (Err OutOfMemory) = ⊤
HasEnded lines state (Err (Input refused)) =
    (number : ℕ) × (fault : TraceFault) × (state ≡ Failed (Line number fault)) × (refused ≡ Trace (lines + number) fault)

-- ---- the profile of a trace

-- How often each size was requested by the events of a trace: by each malloc, calloc and realloc, refused in a replay or not.
abbrev pub profile_of_events : List Event → Counted
profile_of_events events = profile_of_sizes (requested_sizes events)

-- ---- what is kept of the bytes taken so far

-- The events wait in the reader.
abbrev pub KeepsEvents : Reading → List ℕ → Type 0
KeepsEvents reading bytes = reading ≡ fed nothing_read bytes

-- The events wait in the reader, and were counted.
pub record KeepsEventsAndCounts (reading : Reading) (profile : Counted) (bytes : List ℕ) : Type 0 where
  pub events : KeepsEvents reading bytes
  pub counts : profile ≡ profile_of_events reading.events

-- The events were counted, and are not kept.
pub record KeepsCounts (reading : Reading) (profile : Counted) (bytes : List ℕ) : Type 0 where
  pub state : reading ≡ record { events = []; state = (fed nothing_read bytes).state }
  pub counts : profile ≡ profile_of_events (fed nothing_read bytes).events

-- Of a text after these bytes, the front was taken and counted, and this rest is left.
pub record CountsFront (bytes text : List ℕ) (reading : Reading) (profile : Counted) (rest : List ℕ) : Type 0 where
  pub front : List ℕ
  pub text_is : text ≡ front ++ rest
  pub keeps : KeepsCounts reading profile (bytes ++ front)

-- The first line is kept, and the events of the lines after it; `ended` says whether its end was seen.
abbrev pub KeepsLineAndEvents : Bool → List ℕ → Reading → List ℕ → Type 0
KeepsLineAndEvents false line reading bytes = (line ≡ bytes) × IsLine bytes × (reading ≡ nothing_read)
KeepsLineAndEvents true line reading bytes = (trace : List ℕ) × (bytes ≡ line ++ 10 ∷ trace) × IsLine line × KeepsEvents reading trace

-- The input begins with this line, and a trace comes after it whose events wait in the reader. An empty input has an empty line here.
pub record IsLineAndTrace (bytes line trace : List ℕ) (reading : Reading) : Type 0 where
  pub line_is : line ≡ slice_index_or (lines bytes) 0 []
  pub others : lines trace ≡ drop 1 (lines bytes)
  pub keeps : KeepsEvents reading trace

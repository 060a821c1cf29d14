-- A timeline that comes in pieces: what has been read of the lines after its first one.
use Rattle.std.specs.Prelude.{◌≡◌, ℕ, ◌+◌, List, [], ◌++◌, length, Option, Some, None, Result, Ok, Err}
use Rattle.line_text.specs.Lines.{lines}
use Rattle.tuner_theory.specs.declared.size_event.SizeEvent.{SizeEvent}
use Rattle.history_count.specs.Timelines.{Runs.{AreLiveCounts, IsRun}, TimelineText.{events_from}}
use Rattle.history_count.specs.declared.timelines.fault.TimelineFault.{TimelineFault}

-- The events that were read, the fault of the line after theirs, if it was found, and the bytes of the unfinished line.
pub record Reading : Type 0 where
  pub events : List SizeEvent
  pub fault : Option TimelineFault
  pub rest : List ℕ

abbrev pub nothing_read : Reading
nothing_read = record { events = []; fault = None; rest = [] }

-- What comes of a reading where these lines are still to come, which are the first line and those of the events away from the text's first:
-- once a fault was found they do not matter.
abbrev pub going_on : List SizeEvent → Option TimelineFault → List (List ℕ) → Result (List SizeEvent) (ℕ × TimelineFault)
going_on events None ls = events_from (length events + 2) events ls
going_on events (Some fault) ls = Err (length events + 2, fault)

-- The same where these bytes are still to come.
abbrev pub going_on_by : Reading → List ℕ → Result (List SizeEvent) (ℕ × TimelineFault)
going_on_by reading more = going_on reading.events reading.fault (lines (reading.rest ++ more))

-- These bytes after the first line were read: whatever comes after them, the reading goes on to what the lines of all bytes spell.
abbrev pub IsReadingOf : Reading → List ℕ → Type 0
IsReadingOf reading bytes = (more : List ℕ) → events_from 2 [] (lines (bytes ++ more)) ≡ going_on_by reading more

-- ---- one more piece

-- The new reading goes on as the old one does with this piece before what comes.
abbrev pub IsFed : Reading → List ℕ → Reading → Type 0
IsFed old piece new = (more : List ℕ) → going_on_by old (piece ++ more) ≡ going_on_by new more

-- The text is whole lines: what comes after it begins a line.
abbrev pub AreWholeLines : List ℕ → Type 0
AreWholeLines text = (more : List ℕ) → lines (text ++ more) ≡ lines text ++ lines more

abbrev pub AreCountsUnless : Option TimelineFault → List SizeEvent → List ℕ → Type 0
AreCountsUnless None events live = AreLiveCounts events live
AreCountsUnless (Some fault) events live = Unit {0}

-- Lines were taken from these, and the rest is left: the events that were read after those before, or also the fault of the line after theirs.
pub record AreTaken (before after : List SizeEvent) (fault : Option TimelineFault) (counts : List ℕ) (ls rest : List (List ℕ)) : Type 0 where
  pub run : IsRun after
  pub live : AreCountsUnless fault after counts
  pub read : (more : List (List ℕ)) → going_on before None (ls ++ more) ≡ going_on after fault (rest ++ more)

-- These lines were taken, unless memory ran out.
abbrev pub TakesLines : {E : Type 0} → Result (Option TimelineFault) E → List SizeEvent → List SizeEvent → List ℕ → List (List ℕ) → Type 0
TakesLines (Ok fault) before after live ls = AreTaken before after fault live ls []
TakesLines (Err error) before after live ls = IsRun after × AreLiveCounts after live

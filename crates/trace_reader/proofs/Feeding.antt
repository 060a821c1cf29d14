-- Pieces that are fed, one after the other.
use Rattle.std.proofs.Common.{◌≡◌, ℕ, suc, ◌+◌, List, ◌++◌, length, Option}
use Rattle.std.proofs.{Common.{ap, arith, append_assoc, append-nil}, lemmas.List.{length-append}}
use Rattle.trace_event.specs.declared.event.Event.{Event}
use Rattle.trace_reader.{proofs.Cutting.{joined, going_on-joined, cut-append}}
use Rattle.trace_reader.proofs.Traces.{followed_by, trace_from-append, trace_from-long, trace_from-none}
use Rattle.trace_reader.specs.Reading.{added, cut, fed, fed_in, finished, finished_in, going_on}
use Rattle.trace_reader.specs.{Reading.{state_after, Cut, State, Reading}, TraceText.{Trace, trace_from}}
use Rattle.trace_reader.specs.declared.fault.{TraceFault.{TraceFault}}

-- what a trace and the bytes after it are, after so many lines
abbrev reading_of : ℕ → List ℕ → Trace → Reading
reading_of lines rest t = record { events = t.events; state = state_after lines rest t.fault }

-- the whole lines of both
both : (lines : ℕ) (c d : Cut) (piece : List ℕ) → cut piece ≡ d → (t : Trace) (fault : Option (ℕ × TraceFault)) → t.fault ≡ fault
    → added t.events (fed_in (state_after (lines + length c.whole) c.unfinished fault) piece)
    ≡ reading_of (lines + length (joined c d).whole) (joined c d).unfinished
    (followed_by fault t.events (trace_from (suc lines + length c.whole) (going_on c.unfinished d).whole))
both lines c d piece is t fault faulty = grind (arith, append-nil, length-append, trace_from-none, trace_from-long)

pub fed_in-append : (state : State) (a b : List ℕ) → added (fed_in state a).events (fed_in (fed_in state a).state b) ≡ fed_in state (a ++ b)
fed_in-append state a b = grind (arith, both, cut-append, going_on-joined, trace_from-append)

pub added-added : (a b : List Event) (r : Reading) → added (a ++ b) r ≡ added a (added b r)
added-added a b r = ap (λ (es : List Event). record { events = es; state = r.state }) (append_assoc a b r.events)

pub pieces_are_joined : (r : Reading) (a b : List ℕ) → fed (fed r a) b ≡ fed r (a ++ b)
unfolding fed
pieces_are_joined r a b = grind (arith, added-added, fed_in-append)

-- ---- events that wait have no part in it

pub fed_after_events : (events : List Event) (r : Reading) (piece : List ℕ) → fed (added events r) piece ≡ added events (fed r piece)
unfolding fed
fed_after_events events r piece = added-added events r.events (fed_in r.state piece)

pub finished_after_events : (events : List Event) (r : Reading) → finished (added events r) ≡ added events (finished r)
unfolding finished
finished_after_events events r = added-added events r.events (finished_in r.state)

-- Traces of lines, one after the other.
use Rattle.std.proofs.Common.{◌≡◌, ℕ, suc, ◌+◌, ◌<◌, List, [], ◌∷◌, ◌++◌, length, Option, Some, None, Err, refl, ap, ◌∙◌}
use Rattle.std.proofs.{Common.{arith, add-zero}, lemmas.Bool.{lt-ltb}}
use Rattle.trace_event.specs.declared.event.Event.{Event}
use Rattle.trace_reader.specs.{TraceLine.{event_of_line}, TraceText.{Trace, no_lines, with_line, trace_from}}
use Rattle.trace_reader.specs.declared.fault.{TraceFault.{TraceFault}, TraceFault.TheVariants.{LineTooLong}}

-- A trace after another, which is the whole where that one has a fault.
abbrev pub followed_by : Option (ℕ × TraceFault) → List Event → Trace → Trace
followed_by None events t = record { events = events ++ t.events; fault = t.fault }
followed_by (Some fault) events t = record { events = events; fault = Some fault }

abbrev pub followed : Trace → Trace → Trace
followed t u = followed_by t.fault t.events u

pub trace_from-append : (number : ℕ) (a b : List (List ℕ)) →
    trace_from number (a ++ b) ≡ followed (trace_from number a) (trace_from (number + length a) b)
unfolding trace_from
trace_from-append number [] b = rw add-zero refl
trace_from-append number (line ∷ a) b =
    let count : suc number + length a ≡ number + suc (length a) = omega arith in
    let more = trace_from-append (suc number) a b ∙ ap (λ (n : ℕ). followed (trace_from (suc number) a) (trace_from n b)) count in
    grind arith

-- ---- a line that is too long

pub event_of_line-long : (number : ℕ) (line : List ℕ) → 80 < length line → event_of_line number line ≡ Err LineTooLong
unfolding event_of_line
event_of_line-long number line long = rw (lt-ltb 80 (length line) long) refl

pub trace_from-long : (number : ℕ) (line : List ℕ) (ls : List (List ℕ)) → 80 < length line →
    trace_from number (line ∷ ls) ≡ record { events = []; fault = Some (number, LineTooLong) }
unfolding trace_from
trace_from-long number line ls long = rw (event_of_line-long number line long) refl

-- ---- one line

pub trace_from-one : (number : ℕ) (line : List ℕ) → trace_from number (line ∷ []) ≡ with_line number (event_of_line number line) no_lines
unfolding trace_from
trace_from-one number line = refl

pub trace_from-none : (number : ℕ) → trace_from number [] ≡ no_lines
unfolding trace_from
trace_from-none number = refl

-- A trace's text is read as its events, and no other text is.
use Rattle.std.proofs.Common.{◌≡◌, ℕ, suc, ◌+◌, ◌<◌, ◌≤◌, List, [], ◌∷◌, length, map, Some, None, Result, Ok, IfOk, refl, sym}
use Rattle.std.proofs.{Common.{ap, subst, ◌∙◌, arith, All}, lemmas.List.Elements.{All-nil, All-cons, All-head, All-tail}}
use Rattle.line_text.{proofs.LawLemmas.{full_lines_are_read, text_is_its_lines}, specs.Lines.{IsTextOf, lines, IsFullLine}}
use Rattle.trace_event.specs.{Ranges.{IsInRange}, declared.event.Event.{Event}}
use Rattle.trace_reader.proofs.{EventLines.{event_line-is_line, event_line-some, event_of_line-spelled}, LineRanges.{few_events}}
use Rattle.trace_reader.{proofs.SpelledLines.{IfOk-event_of_line, spelled_line}, specs.TraceLine.{event_line, event_of_line}}
use Rattle.trace_reader.specs.TraceText.{SpellsTrace, Trace, trace_from, trace_of, with_line}
use Rattle.trace_reader.specs.declared.fault.TraceFault.{TraceFault}

abbrev pub whole : List Event → Trace
whole events = record { events = events; fault = None }

-- ---- from lines to events

record SpellLines (number : ℕ) (ls : List (List ℕ)) (events : List Event) : Type 0 where
  ranges : All IsInRange events
  spelled : ls ≡ map event_line events
  few : 0 < length events → number + length events ≤ 1000001

-- a line in front
no_fault : (number : ℕ) (r : Result Event TraceFault) (t : Trace) (events : List Event) → with_line number r t ≡ whole events →
    (e : Event) × (es : List Event) × (r ≡ Ok e) × (events ≡ e ∷ es) × (t ≡ whole es)
no_fault number x1 t events is = grind arith

of_ok : (P : Event → Type 0) (r : Result Event TraceFault) (e : Event) → r ≡ Ok e → IfOk r P → P e
of_ok P r e is holds = subst (λ (r : Result Event TraceFault). IfOk r P) is holds

spelled_lines : (number : ℕ) (ls : List (List ℕ)) (events : List Event) → trace_from number ls ≡ whole events → SpellLines number ls events
unfolding trace_from
spelled_lines number [] events is = grind arith
spelled_lines number (line ∷ ls) events is =
    let first = no_fault number (event_of_line number line) (trace_from (suc number) ls) events is in
    let e = first.0 in
    let es = first.1 in
    let others = spelled_lines (suc number) ls es first.4 in
    let in_range = of_ok (IsInRange) (event_of_line number line) e first.2 (IfOk-event_of_line number line) in
    let spells = of_ok (λ e. line ≡ event_line e) (event_of_line number line) e first.2 (spelled_line number line) in
    let low = of_ok (λ e. number ≤ 1000000) (event_of_line number line) e first.2 (few_events number line) in
    grind arith
  where
    few_more : (number : ℕ) → number ≤ 1000000 → (es : List Event) → (0 < length es → suc number + length es ≤ 1000001) →
        number + suc (length es) ≤ 1000001
    few_more number low [] few = omega (arith, low)
    few_more number low (e ∷ es) few = omega (arith, few (omega arith))

pub trace_is_spelled : (text : List ℕ) (events : List Event) → trace_of text ≡ whole events → SpellsTrace text events
trace_is_spelled text events is =
    let s = spelled_lines 1 (lines text) events is in
    record { few = few events s.few; ranges = s.ranges; spelled = subst (IsTextOf text) s.spelled (text_is_its_lines text) }
  where
    few : (events : List Event) → (0 < length events → 1 + length events ≤ 1000001) → length events ≤ 1000000
    few [] more = omega arith
    few (e ∷ es) more = omega (arith, more (omega arith))

-- ---- from events to lines

read_lines : (number : ℕ) (events : List Event) → All IsInRange events → number + length events ≤ 1000001
    → trace_from number (map event_line events) ≡ whole events
unfolding trace_from
read_lines number [] ranges few = refl
read_lines number (e ∷ es) ranges few =
    grind (arith, read_lines (suc number) es (All-tail IsInRange e es ranges) (omega (arith, few)), event_of_line-spelled, All-head)

full_lines : (events : List Event) → All IsInRange events → All IsFullLine (map event_line events)
full_lines [] ranges = All-nil IsFullLine
full_lines (e ∷ es) ranges =
    All-cons IsFullLine (event_line e) (map event_line es) (event_line-is_line e (All-head IsInRange e es ranges), event_line-some e)
    (full_lines es (All-tail IsInRange e es ranges))

pub spelled_trace_is_read : (text : List ℕ) (events : List Event) → SpellsTrace text events → trace_of text ≡ whole events
spelled_trace_is_read text events spells = grind (arith, full_lines, full_lines_are_read, read_lines)

pub text_spells_one_trace : (text : List ℕ) (a b : List Event) → SpellsTrace text a → SpellsTrace text b → a ≡ b
text_spells_one_trace text a b of_a of_b = ap (λ (t : Trace). t.events) (sym (spelled_trace_is_read text a of_a) ∙ spelled_trace_is_read text b of_b)

-- ---- the events before a fault

events_before : (number : ℕ) (ls : List (List ℕ)) (at : ℕ) (fault : TraceFault) → (trace_from number ls).fault ≡ Some (at, fault) →
    at ≡ number + length (trace_from number ls).events
unfolding trace_from
events_before number [] at fault is = absurd cc
events_before number (line ∷ ls) at fault is = grind (arith, events_before (suc number) ls at fault)

pub fault_is_after_its_events : (text : List ℕ) (at : ℕ) (fault : TraceFault) → (trace_of text).fault ≡ Some (at, fault) →
    at ≡ suc (length (trace_of text).events)
fault_is_after_its_events text at fault is = omega (arith, events_before 1 (lines text) at fault is)

-- The number of an event's line is not above the most events, and a trace has no more.
use Rattle.line_text.specs.{FirstFault.{◌>>=◌}, Lines.{lines}}
use Rattle.trace_reader.specs.{TraceLine.{event_of_line}, TraceText.{trace_from, trace_of, with_line}}
use Rattle.trace_reader.specs.declared.fault.{TraceFault.{TraceFault}}
use Rattle.std.proofs.Common.{◌≡◌, ℕ, ◌≤◌, Bool, true, ◌&&◌, List, [], ◌∷◌, length, Result, Ok, Err, IfOk, arith}
use Rattle.std.proofs.{Common.{suc, ◌+◌}, lemmas.Bool.{ltb-false}}
use Rattle.trace_event.specs.declared.event.Event.{Event}

-- ---- one value after another

pub both_pass : (a b : Bool) → (a && b) ≡ true → (a ≡ true) × (b ≡ true)
both_pass a b e = grind arith

pub IfOk-and_then : {A B : Type 0} (P : A → Type 0) (Q : B → Type 0) (r : Result A TraceFault) (f : A → Result B TraceFault) → IfOk r P →
    ((x : A) → P x → IfOk (f x) Q) → IfOk (r >>= f) Q
IfOk-and_then P Q r f holds more = grind arith

-- ---- the number of a line

-- the line of an event is not after the most events
pub few_events : (number : ℕ) (line : List ℕ) → IfOk (event_of_line number line) (λ event. number ≤ 1000000)
unfolding event_of_line
few_events number line = grind (arith, ltb-false)

-- ---- a text

few_from : (number : ℕ) (ls : List (List ℕ)) → number ≤ 1000001 → number + length (trace_from number ls).events ≤ 1000001
unfolding trace_from
few_from number [] low = omega (arith, low)
few_from number (line ∷ ls) low = go (event_of_line number line) (few_events number line) (λ lower. few_from (suc number) ls lower)
  where
    go : (r : Result Event TraceFault) → IfOk r (λ event. number ≤ 1000000) →
        (suc number ≤ 1000001 → suc number + length (trace_from (suc number) ls).events ≤ 1000001)
        → number + length (with_line number r (trace_from (suc number) ls)).events ≤ 1000001
    go (Ok event) few next = omega (arith, next (omega (arith, few)))
    go (Err fault) few next = omega (arith, low)

pub events_are_few : (text : List ℕ) → length (trace_of text).events ≤ 1000000
events_are_few text = omega (arith, few_from 1 (lines text) (omega arith))

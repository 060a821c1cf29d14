-- Lines that end, and the end of the text.
use Rattle.std.proofs.Common.{◌≡◌, ℕ, suc, Bool, true, false, cond, eqb, eq-eqb, ltb, List, [], ◌∷◌, ◌++◌, length, Result, Ok, Err}
use Rattle.std.proofs.{Common.{refl, sym, ap, ◌∙◌, arith, append_assoc, append-nil, add-one}}
use Rattle.line_text.{proofs.LawLemmas.{equal_is_prefix, prefix_of_prefix}, specs.Lines.{IsLine}, specs.Prefixes.{IsPrefix}}
use Rattle.trace_event.specs.declared.event.Event.{Event}
use Rattle.trace_reader.proofs.{Cutting.{cut-ended}, Feeding.{pieces_are_joined}, Traces.{event_of_line-long, trace_from-one}}
use Rattle.trace_reader.proofs.Reaching.{IsPrefix-fed, IsPrefix-finished, came, fed_at-line, fields, is_open_at, open_at}
use Rattle.trace_reader.specs.{Reached.{HasReached, IsOnTheWay, answer_of}, Reading.State.{Open, Failed, Finished}}
use Rattle.trace_reader.specs.Reading.{State, Reading, cut, fed, fed_in, finished, finished_in, is_open, judged_in}
use Rattle.trace_reader.specs.Reading.{judgement_in, line_ended, whole_reading, with_judged, is_finished}
use Rattle.trace_reader.specs.{TraceLine.{event_of_line}, TraceText.{no_lines, with_line}}
use Rattle.trace_reader.specs.declared.fault.{TraceError.{TraceError}, TraceError.TheVariants.{Line}}
use Rattle.trace_reader.specs.declared.{fault.TraceFault.TheVariants.{LineTooLong}, status.Status.{Status}}
use Rattle.trace_reader.specs.declared.status.Status.TheVariants.{Failed as HasFailed}

abbrev Answer : Type 0
Answer = Result (Unit {0}) TraceError

abbrev at : List Event → State → Reading
at events state = record { events = events; state = state }

-- what holds of each open reading
by_open : (P : Reading → Type 0) → ((events : List Event) (lines : ℕ) (rest : List ℕ) → P (open_at events lines rest)) → (old : Reading)
    → is_open old ≡ true → P old
by_open P each old open_now = go old.state open_now
  where
    go : (state : State) → is_open (at old.events state) ≡ true → P (at old.events state)
    go (Open lines rest) open_now = each old.events lines rest
    go (Failed error) open_now = absurd cc
    go Finished open_now = absurd cc

-- ---- a line that was kept, and then ends

kept_so : (events : List Event) (lines : ℕ) (rest bytes : List ℕ) → IsLine bytes → (v : Bool) → ltb 80 (length (rest ++ bytes)) ≡ v
    → fed (open_at events lines rest) bytes ≡ at events (cond v (Failed (Line (suc lines) LineTooLong)) (Open lines (rest ++ bytes)))
kept_so events lines rest bytes line v is = fed_at-line events lines rest bytes line ∙ rw is refl

pub is_open-kept : (old : Reading) (bytes : List ℕ) → is_open old ≡ true → IsLine bytes → Ok tt ≡ answer_of (fed old bytes).state →
    is_open (fed old bytes) ≡ true
is_open-kept old bytes open_now line answer =
    by_open (λ r. Ok tt ≡ answer_of (fed r bytes).state → is_open (fed r bytes) ≡ true)
    (λ events lines rest answer. short events lines rest answer (ltb 80 (length (rest ++ bytes))) refl) old open_now answer
  where
    short : (events : List Event) (lines : ℕ) (rest : List ℕ) → Ok tt ≡ answer_of (fed (open_at events lines rest) bytes).state → (v : Bool) →
        ltb 80 (length (rest ++ bytes)) ≡ v → is_open (fed (open_at events lines rest) bytes) ≡ true
    short events lines rest answer true is = grind (arith, kept_so)
    short events lines rest answer false is = ap is_open (kept_so events lines rest bytes line false is)

pub line_ended-kept : (old : Reading) (bytes : List ℕ) → is_open old ≡ true → IsLine bytes → Ok tt ≡ answer_of (fed old bytes).state →
    line_ended (fed old bytes) [] ≡ line_ended old bytes
unfolding with_judged
line_ended-kept old bytes open_now line answer =
    by_open (λ r. Ok tt ≡ answer_of (fed r bytes).state → line_ended (fed r bytes) [] ≡ line_ended r bytes)
    (λ events lines rest answer. short events lines rest answer (ltb 80 (length (rest ++ bytes))) refl) old open_now answer
  where
    short : (events : List Event) (lines : ℕ) (rest : List ℕ) → Ok tt ≡ answer_of (fed (open_at events lines rest) bytes).state → (v : Bool) →
        ltb 80 (length (rest ++ bytes)) ≡ v
        → line_ended (fed (open_at events lines rest) bytes) [] ≡ line_ended (open_at events lines rest) bytes
    short events lines rest answer true is = grind (arith, kept_so)
    short events lines rest answer false is = grind (arith, kept_so, append-nil)

pub line_ended-long : (old : Reading) (bytes : List ℕ) (error : TraceError) → is_open old ≡ true → IsLine bytes →
    Err error ≡ answer_of (fed old bytes).state → fed old bytes ≡ line_ended old bytes
unfolding with_judged
line_ended-long old bytes error open_now line answer =
    by_open (λ r. Err error ≡ answer_of (fed r bytes).state → fed r bytes ≡ line_ended r bytes)
    (λ events lines rest answer. long events lines rest answer (ltb 80 (length (rest ++ bytes))) refl) old open_now answer
  where
    long : (events : List Event) (lines : ℕ) (rest : List ℕ) → Err error ≡ answer_of (fed (open_at events lines rest) bytes).state → (v : Bool) →
        ltb 80 (length (rest ++ bytes)) ≡ v
        → fed (open_at events lines rest) bytes ≡ line_ended (open_at events lines rest) bytes
    long events lines rest answer true is = grind (arith, kept_so, event_of_line-long, append-nil)
    long events lines rest answer false is = grind (arith, kept_so)

-- ---- a line with its newline, and what comes after it

fed_in-ended : (lines : ℕ) (rest line : List ℕ) → IsLine line →
    fed_in (Open lines rest) (line ++ 10 ∷ []) ≡ judged_in (Open lines rest) (event_of_line (suc lines) (rest ++ line))
unfolding cut
fed_in-ended lines rest line is_line = grind (arith, cut-ended, trace_from-one, add-one)

pub fed-ended : (old : Reading) (line : List ℕ) → is_open old ≡ true → IsLine line → fed old (line ++ 10 ∷ []) ≡ line_ended old line
unfolding fed with_judged
fed-ended old line open_now is_line = grind (arith, by_open, fed_in-ended)

pub fed-after : (old : Reading) (line after : List ℕ) → is_open old ≡ true → IsLine line →
    fed old (line ++ 10 ∷ after) ≡ fed (line_ended old line) after
fed-after old line after open_now is_line =
    ap (fed old) (sym (append_assoc line (10 ∷ []) after)) ∙ sym (pieces_are_joined old (line ++ 10 ∷ []) after)
    ∙ ap (λ (r : Reading). fed r after) (fed-ended old line open_now is_line)

pub is_open-ended : (old : Reading) (line : List ℕ) → is_open old ≡ true → Ok tt ≡ answer_of (line_ended old line).state →
    is_open (line_ended old line) ≡ true
unfolding with_judged
is_open-ended old line open_now answer = grind (arith, by_open)

-- ---- after an error nothing changes

failed_at : (r : Reading) (error : TraceError) → Err error ≡ answer_of r.state → r.state ≡ Failed error
failed_at r error answer = grind arith

pub fed-failed : (r : Reading) (error : TraceError) (piece : List ℕ) → r.state ≡ Failed error → fed r piece ≡ r
unfolding fed
fed-failed r error piece failed = rw failed (ap (λ (es : List Event). at es (Failed error)) (append-nil r.events))

pub finished-failed : (r : Reading) (error : TraceError) → r.state ≡ Failed error → finished r ≡ r
unfolding finished
finished-failed r error failed = rw failed (ap (λ (es : List Event). at es (Failed error)) (append-nil r.events))

is_finished-fed : (r : Reading) (piece : List ℕ) → is_finished r ≡ false → is_finished (fed r piece) ≡ false
unfolding fed
is_finished-fed r piece unfinished = grind arith

pub unfinished_after : (old new : Reading) (piece : List ℕ) (result : Answer) → is_finished old ≡ false →
    HasReached old (fed old piece) new result → is_finished new ≡ false
unfinished_after old new piece x3 unfinished reached = grind (arith, failed_at, is_finished-fed)

-- ---- where an error ends a call

pub failed_on_the_way : (old mid new : Reading) (error : TraceError) (piece line after : List ℕ) → is_open mid ≡ true → IsLine line
    → fed old piece ≡ fed mid (line ++ 10 ∷ after) → IsPrefix old.events mid.events →
    HasReached mid (line_ended mid line) new (Err error) → HasReached old (fed old piece) new (Err error)
failed_on_the_way old mid new error piece line after open_now is_line same kept reached =
    grind (arith, fed-after, fed-failed, failed_at, prefix_of_prefix, IsPrefix-fed, equal_is_prefix)

-- ---- from one reading to another

pub IsPrefix-ended : (r : Reading) (line : List ℕ) → IsPrefix r.events (line_ended r line).events
unfolding with_judged
IsPrefix-ended r line = record { after = (judged_in r.state (judgement_in r.state line)).events; is = refl }

pub reached_from : (old mid wanted wanted' new : Reading) (result : Answer) → wanted ≡ wanted' → IsPrefix old.events mid.events →
    HasReached mid wanted new result → HasReached old wanted' new result
reached_from old mid wanted wanted' new result same kept reached = grind (arith, equal_is_prefix, prefix_of_prefix)

pub reached_ok : (old wanted new : Reading) → HasReached old wanted new (Ok tt) → new ≡ wanted
reached_ok old wanted new reached = reached.reading (λ e. absurd cc)

-- the way goes on over a line
pub line_on_the_way : (old mid new : Reading) (text rest line after : List ℕ) → IsOnTheWay old text mid rest → rest ≡ line ++ 10 ∷ after →
    IsLine line → HasReached mid (line_ended mid line) new (Ok tt) → IsOnTheWay old text new after
line_on_the_way old mid new text rest line after way cut is_line reached =
    grind (arith, fed-after, is_open-ended, prefix_of_prefix, reached_ok)

pub way_after_way : (old mid new : Reading) (text rest after : List ℕ) → IsOnTheWay old text mid rest → IsOnTheWay mid rest new after →
    IsOnTheWay old text new after
way_after_way old mid new text rest after way more = grind (arith, prefix_of_prefix)

pub reached_on_the_way : (old mid new : Reading) (text rest : List ℕ) (result : Answer) → IsOnTheWay old text mid rest →
    HasReached mid (fed mid rest) new result → HasReached old (fed old text) new result
reached_on_the_way old mid new text rest result way reached = grind (arith, reached_from)

pub state_failed : (old : Reading) (events : List Event) (lines : ℕ) (rest : List ℕ) (status : Status) (error : TraceError) →
    fields events lines rest status ≡ old → status ≡ HasFailed error → old.state ≡ Failed error
state_failed old events lines rest status error is failed = grind arith

-- an open reading stands at no error
pub unchanged_if_failed : (old new : Reading) → is_open old ≡ true → (error : TraceError) → old.state ≡ Failed error → new ≡ old
unchanged_if_failed old new open_now error failed = let f = sym open_now ∙ ap (λ (s : State). is_open (at old.events s)) failed in absurd cc

-- ---- the end of the text

-- without an unfinished line
pub finished-empty : (events : List Event) (lines : ℕ) (rest : List ℕ) → length rest ≡ 0 →
    finished (open_at events lines rest) ≡ at events Finished
unfolding finished
finished-empty events lines rest none = grind (arith, append-nil)

-- the reading of the last line
last_line_in : (lines : ℕ) (rest : List ℕ) → (length rest ≡ 0 → ⊥) →
    finished_in (Open lines rest) ≡ whole_reading (with_line (suc lines) (event_of_line (suc lines) (rest ++ [])) no_lines)
last_line_in lines rest some = grind (arith, append-nil)

pub finished-line : (events : List Event) (lines : ℕ) (rest : List ℕ) → (length rest ≡ 0 → ⊥) →
    Ok tt ≡ answer_of (line_ended (open_at events lines rest) []).state
    → finished (open_at events lines rest) ≡ at (line_ended (open_at events lines rest) []).events Finished
unfolding finished with_judged
finished-line events lines rest some answer = grind (arith, last_line_in)

finished-events : (events : List Event) (lines : ℕ) (rest : List ℕ) → (length rest ≡ 0 → ⊥) →
    (finished (open_at events lines rest)).events ≡ (line_ended (open_at events lines rest) []).events
unfolding finished with_judged
finished-events events lines rest some = grind (arith, last_line_in)

finished-fault : (events : List Event) (lines : ℕ) (rest : List ℕ) (error : TraceError) → (length rest ≡ 0 → ⊥) →
    Err error ≡ answer_of (line_ended (open_at events lines rest) []).state
    → finished (open_at events lines rest) ≡ line_ended (open_at events lines rest) []
unfolding finished with_judged
finished-fault events lines rest error some answer = grind (arith, last_line_in)

failed_at_end : (events : List Event) (lines : ℕ) (rest : List ℕ) (new : Reading) (error : TraceError) → (length rest ≡ 0 → ⊥)
    → HasReached (open_at events lines rest) (line_ended (open_at events lines rest) []) new (Err error) →
    HasReached (open_at events lines rest) (finished (open_at events lines rest)) new (Err error)
failed_at_end events lines rest new error some reached = grind (arith, finished-fault, finished-events)

-- an unfinished line that is not empty
pub not_empty : (rest : List ℕ) (empty : Bool) → empty ≡ eqb (length rest) 0 → empty ≡ false → length rest ≡ 0 → ⊥
not_empty rest empty is isn_t none = let f = sym isn_t ∙ is ∙ eq-eqb (length rest) 0 none in absurd cc

pub finish_failed : (old new : Reading) (events : List Event) (lines : ℕ) (rest : List ℕ) (status : Status) (error : TraceError)
    → fields events lines rest status ≡ old → is_open old ≡ true → (length rest ≡ 0 → ⊥) →
    HasReached old (line_ended old []) new (Err error) → HasReached old (finished old) new (Err error)
finish_failed old new events lines rest status error is open_now some reached = grind (arith, failed_at_end, is_open_at)

pub finish_line : (old mid : Reading) (events : List Event) (lines : ℕ) (rest : List ℕ) (status : Status) (events' : List Event)
    → fields events lines rest status ≡ old → is_open old ≡ true → (length rest ≡ 0 → ⊥) → HasReached old (line_ended old []) mid (Ok tt) →
    events' ≡ mid.events → HasReached old (finished old) (at events' Finished) (Ok tt)
finish_line old mid events lines rest status events' is open_now some reached same = grind (arith, finished-line)

pub finish_empty : (old : Reading) (events : List Event) (lines : ℕ) (rest : List ℕ) (status : Status) (events' : List Event)
    → fields events lines rest status ≡ old → is_open old ≡ true → length rest ≡ 0 → events' ≡ old.events →
    HasReached old (finished old) (at events' Finished) (Ok tt)
finish_empty old events lines rest status events' is open_now none same =
    let ends : finished old ≡ at events' Finished =
    grind (arith, finished-empty) in
    came old (finished old) (at events' Finished) (Ok tt) (sym ends) (ap (λ (r : Reading). answer_of r.state) (sym ends))
    (IsPrefix-finished old)

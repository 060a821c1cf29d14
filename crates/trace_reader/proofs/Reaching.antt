-- Readings that a call comes to.
use Rattle.std.proofs.Common.{◌≡◌, ℕ, ◌+◌, ◌<◌, ◌≤◌, true, false, List, [], ◌∷◌, ◌++◌, length, Result, Ok, Err, IsOk, OnErr, OnOk}
use Rattle.std.proofs.{Common.{is_err, ◌↔◌, refl, arith, append-nil, add-one, add-zero}, lemmas.Bool.{lt-ltb}}
use Rattle.std.proofs.lemmas.Bool.Decides.{nat_tests}
use Rattle.line_text.{proofs.LawLemmas.{equal_is_prefix}, specs.Lines.{IsLine}, specs.Prefixes.{IsPrefix}}
use Rattle.trace_event.specs.declared.event.Event.{Event}
use Rattle.trace_reader.{proofs.Cutting.{cut-line}, proofs.Traces.{trace_from-none}, specs.Reached.{HasReached, answer_of}}
use Rattle.trace_reader.specs.Reading.{Reading, fed, fed_in, finished, finished_in, is_open, is_open_state}
use Rattle.trace_reader.specs.{Reading.{with_judged, unfinished_state}, Reading.State.{Open, Failed}, Status.{state_of}}
use Rattle.trace_reader.specs.declared.fault.{TraceError.{TraceError}, TraceError.TheVariants.{OutOfMemory, Line}, TraceFault.{TraceFault}}
use Rattle.trace_reader.specs.declared.{fault.TraceFault.TheVariants.{LineTooLong}, status.Status.{Status}}
use Rattle.trace_reader.specs.declared.status.Status.TheVariants.{Open as IsOpen}

abbrev Answer : Type 0
Answer = Result (Unit {0}) TraceError

-- ---- every step only adds events

pub IsPrefix-fed : (r : Reading) (piece : List ℕ) → IsPrefix r.events (fed r piece).events
unfolding fed
IsPrefix-fed r piece = record { after = (fed_in r.state piece).events; is = refl }

pub IsPrefix-finished : (r : Reading) → IsPrefix r.events (finished r).events
unfolding finished
IsPrefix-finished r = record { after = (finished_in r.state).events; is = refl }

-- ---- where a call ends

pub came : (old wanted new : Reading) (result : Answer) → new ≡ wanted → result ≡ answer_of wanted.state →
    IsPrefix old.events wanted.events → HasReached old wanted new result
came old wanted new result is answer kept = grind (arith, equal_is_prefix)

pub ran_out : (old wanted new : Reading) (result : Answer) → new ≡ record { events = old.events; state = Failed OutOfMemory } →
    result ≡ Err OutOfMemory → IsPrefix old.events wanted.events → HasReached old wanted new result
ran_out old wanted new result is answer kept = grind (arith, equal_is_prefix)

-- ---- the fields of an open reader

abbrev pub fields : List Event → ℕ → List ℕ → Status → Reading
fields events lines rest status = record { events = events; state = state_of status lines rest }

abbrev pub open_at : List Event → ℕ → List ℕ → Reading
open_at events lines rest = record { events = events; state = Open lines rest }

pub status_open : (status : Status) (lines : ℕ) (rest : List ℕ) → is_open_state (state_of status lines rest) ≡ true → status ≡ IsOpen
status_open status lines rest e = grind arith

pub is_open_at : (old : Reading) (events : List Event) (lines : ℕ) (rest : List ℕ) (status : Status) →
    fields events lines rest status ≡ old → is_open old ≡ true → (status ≡ IsOpen) × (old ≡ open_at events lines rest)
is_open_at old events lines rest status is open_now = grind (arith, status_open)

-- ---- a line that was judged

pub judged_event : (old : Reading) (events : List Event) (lines : ℕ) (rest : List ℕ) (status : Status) (event : Event)
    (events' : List Event) (rest' : List ℕ)
    → fields events lines rest status ≡ old → is_open old ≡ true → events' ≡ events ++ event ∷ [] → rest' ≡ []
    → HasReached old (with_judged old (Ok event)) (fields events' (lines + 1) rest' status) (Ok tt)
unfolding with_judged
judged_event old events lines rest status event events' rest' is open_now more none =
    let s = is_open_at old events lines rest status is open_now in
    rw s.1
    (came (open_at events lines rest) _ _ _ (rw (s.0, more, none, add-one lines) refl) refl (record { after = event ∷ []; is = refl }))

pub judged_memory : (old new : Reading) (events : List Event) (lines : ℕ) (rest : List ℕ) (status : Status) (event : Event)
    (result : Answer)
    → fields events lines rest status ≡ old → is_open old ≡ true → new ≡ record { events = events; state = Failed OutOfMemory } →
    result ≡ Err OutOfMemory
    → HasReached old (with_judged old (Ok event)) new result
unfolding with_judged
judged_memory old new events lines rest status event result is open_now failed answer =
    let s = is_open_at old events lines rest status is open_now in
    rw s.1 (ran_out (open_at events lines rest) _ new result failed answer (record { after = event ∷ []; is = refl }))

pub judged_fault : (old new : Reading) (events : List Event) (lines : ℕ) (rest : List ℕ) (status : Status) (fault : TraceFault)
    (result : Answer)
    → fields events lines rest status ≡ old → is_open old ≡ true →
    new ≡ record { events = old.events; state = Failed (Line (lines + 1) fault) } → result ≡ Err (Line (lines + 1) fault)
    → HasReached old (with_judged old (Err fault)) new result
unfolding with_judged
judged_fault old new events lines rest status fault result is open_now failed answer = grind (arith, append-nil)

-- what a call says that did not fail, and what one says that did
pub pushed : {E : Type 0} (r : Result (Unit {0}) E) (Is : Type 0) → is_err r ≡ false → OnOk r Is → Is
pushed r Is ok is = grind arith

pub not_pushed : {E : Type 0} (r : Result (Unit {0}) E) (Is : Type 0) → is_err r ≡ true → OnErr r Is → Is
not_pushed r Is failed is = grind arith

-- ---- bytes without a newline

pub fed_at-line : (events : List Event) (lines : ℕ) (rest bytes : List ℕ) → IsLine bytes
    → fed (open_at events lines rest) bytes ≡ record { events = events; state = unfinished_state lines (rest ++ bytes) }
unfolding fed
fed_at-line events lines rest bytes line = grind (arith, cut-line, trace_from-none, add-zero, append-nil)

-- what an extension that fits says
pub extended : {E : Type 0} (r : Result (Unit {0}) E) (Fits Is : Type 0) → is_err r ≡ false → IsOk r ↔ Fits → OnOk r Is → Fits × Is
extended r Fits Is ok fits is = grind arith

-- and one that does not
pub not_extended : {E : Type 0} (r : Result (Unit {0}) E) (Fits : Type 0) → is_err r ≡ true → IsOk r ↔ Fits → Fits → ⊥
not_extended r Fits failed fits holds = grind arith

pub keeps : (old : Reading) (events : List Event) (lines : ℕ) (rest bytes rest' : List ℕ) (status : Status)
    → fields events lines rest status ≡ old → is_open old ≡ true → IsLine bytes → length (rest ++ bytes) ≤ 80 → rest' ≡ rest ++ bytes →
    fields events lines rest' status ≡ fed old bytes
keeps old events lines rest bytes rest' status is open_now line fits all = grind (arith, fed_at-line, is_open_at, nat_tests)

pub keeps_not : (old new : Reading) (events : List Event) (lines : ℕ) (rest bytes : List ℕ) (status : Status)
    → fields events lines rest status ≡ old → is_open old ≡ true → IsLine bytes → 80 < length (rest ++ bytes)
    → new ≡ record { events = events; state = Failed (Line (lines + 1) LineTooLong) } → new ≡ fed old bytes
keeps_not old new events lines rest bytes status is open_now line long failed = grind (arith, is_open_at, fed_at-line, lt-ltb, add-one)

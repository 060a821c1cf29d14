-- Lines that are read in one pass, since they spell events.
use Rattle.std.proofs.Common.{◌+◌, add-one, add-zero, append-nil, append_assoc, All, length, ◌≤◌, ◌≡◌, ℕ, suc, ◌<◌, true, List, [], ◌∷◌}
use Rattle.std.proofs.{Common.{◌++◌, Ok, refl, sym, ap, subst, ◌∙◌, arith}, lemmas.List.{length-append}}
use Rattle.std.proofs.lemmas.List.Elements.{All-head, All-tail}
use Rattle.trace_event.specs.{Ranges.{IsInRange}, declared.event.Event.{Event}}
use Rattle.trace_reader.proofs.{Ending.{fed-after, fed-ended}, EventLines.{event_line-is_line, event_of_line-spelled}}
use Rattle.trace_reader.{proofs.Reaching.{fields, is_open_at, open_at}, specs.Reached.{IsOnTheWay}, specs.Reading.State.{Open}}
use Rattle.trace_reader.specs.Reading.{Reading, State, fed, is_at_start, is_open_state, is_start, line_ended, with_judged}
use Rattle.trace_reader.specs.{TraceLine.{event_line, event_lines}, declared.status.Status.{Status}}
use Rattle.line_text.specs.Lines.{ended}

start_is_open : (state : State) → is_start state ≡ true → is_open_state state ≡ true
start_is_open x0 e = grind arith

no_rest : (lines : ℕ) (rest : List ℕ) → is_start (Open lines rest) ≡ true → rest ≡ []
no_rest lines rest e = grind arith

-- the line of an event, from its start on, is judged to be that event
pub line_of_event : (mid : Reading) (events : List Event) (lines : ℕ) (rest : List ℕ) (status : Status) (event : Event)
    → fields events lines rest status ≡ mid → is_at_start mid ≡ true → lines < 1000000 → IsInRange event
    → line_ended mid (event_line event) ≡ with_judged mid (Ok event)
line_of_event mid events lines rest status event is start few range = grind (arith, event_of_line-spelled)

-- ---- an event that is handed out at once

-- the reading after the line, and the event of the line
pub event_at_once : (old : Reading) (events : List Event) (lines : ℕ) (rest : List ℕ) (status : Status) (event : Event)
    → fields events lines rest status ≡ old → is_at_start old ≡ true → lines < 1000000 → IsInRange event
    → record { events = old.events ++ event ∷ []; state = (fields events (lines + 1) rest status).state } ≡ fed old (ended (event_line event))
unfolding with_judged
event_at_once old events lines rest status event is start few range =
    let open_now = start_is_open old.state start in
    let s = is_open_at old events lines rest status is open_now in
    let start_there : is_start (Open lines rest) ≡ true = sym (ap is_at_start s.1) ∙ start in
    sym (fed-ended old (event_line event) open_now (event_line-is_line event range)
    ∙ line_of_event old events lines rest status event is start few range
    ∙ subst (λ (r : Reading). with_judged r (Ok event) ≡ record { events = r.events ++ event ∷ []; state = Open (suc lines) [] })
    (sym s.1) refl
    ∙ rw (s.0, add-one lines, no_rest lines rest start_there) refl)

-- ---- lines that are read into a batch

-- one line more in front of the rest of a text
pub one_line_more : (text rest after : List ℕ) (events events' : List Event) (event : Event) → text ≡ event_lines events ++ rest
    → rest ≡ event_line event ++ 10 ∷ after → events' ≡ events ++ event ∷ [] → text ≡ event_lines events' ++ after
one_line_more text rest after events events' event so_far line more =
    so_far ∙ ap (λ (t : List ℕ). event_lines events ++ t) line ∙ sym (ap (λ (es : List Event). event_lines es ++ after) more ∙ go events)
  where
    go : (es : List Event) → event_lines (es ++ event ∷ []) ++ after ≡ event_lines es ++ (event_line event ++ 10 ∷ after)
    go [] = append_assoc (event_line event) (10 ∷ []) after
    go (e ∷ es) =
        let front : event_lines ((e ∷ es) ++ event ∷ []) ++ after ≡ event_line e ++ 10 ∷ (event_lines (es ++ event ∷ []) ++ after) =
        append_assoc (event_line e) (10 ∷ event_lines (es ++ event ∷ [])) after in
        let back : event_lines (e ∷ es) ++ (event_line event ++ 10 ∷ after)
        ≡ event_line e ++ 10 ∷ (event_lines es ++ (event_line event ++ 10 ∷ after))
        = append_assoc (event_line e) (10 ∷ event_lines es) (event_line event ++ 10 ∷ after) in
        front ∙ ap (λ (t : List ℕ). event_line e ++ 10 ∷ t) (go es) ∙ sym back

-- their events are taken one after the other
fed-lines : (es : List Event) (events : List Event) (lines : ℕ) (after : List ℕ) → lines + length es ≤ 1000000 → All IsInRange es
    → fed (open_at events lines []) (event_lines es ++ after) ≡ fed (open_at (events ++ es) (lines + length es) []) after
unfolding with_judged
fed-lines [] events lines after few range = rw (append-nil events, add-zero lines) refl
fed-lines (e ∷ es) events lines after few range =
    let r = open_at events lines [] in
    let here : IsInRange e = All-head IsInRange e es range in
    let count : suc lines + length es ≡ lines + suc (length es) = omega arith in
    let cut : event_lines (e ∷ es) ++ after ≡ event_line e ++ 10 ∷ (event_lines es ++ after) =
    append_assoc (event_line e) (10 ∷ event_lines es) after in
    let judged : line_ended r (event_line e) ≡ open_at (events ++ e ∷ []) (suc lines) [] =
    ap (with_judged r) (event_of_line-spelled (suc lines) e (omega (arith, few)) here) in
    let more : open_at ((events ++ e ∷ []) ++ es) (suc lines + length es) [] ≡ open_at (events ++ e ∷ es) (lines + suc (length es)) [] =
    rw (append_assoc events (e ∷ []) es, count) refl in
    ap (fed r) cut ∙ fed-after r (event_line e) (event_lines es ++ after) refl (event_line-is_line e here)
    ∙ ap (λ (q : Reading). fed q (event_lines es ++ after)) judged
    ∙ fed-lines es (events ++ e ∷ []) (suc lines) after (omega (arith, few)) (All-tail IsInRange e es range)
    ∙ ap (λ (q : Reading). fed q after) more

pub batch_taken : (old : Reading) (events : List Event) (lines : ℕ) (rest : List ℕ) (status : Status) (es : List Event)
    (text after : List ℕ)
    → fields events lines rest status ≡ old → is_at_start old ≡ true → lines + length es ≤ 1000000 → All IsInRange es
    → text ≡ event_lines es ++ after
    → IsOnTheWay old text (fields (events ++ es) (lines + length es) rest status) after
    × (is_at_start (fields (events ++ es) (lines + length es) rest status) ≡ true)
batch_taken old events lines rest status es text after is start few range cut = grind (arith, is_open_at, start_is_open, no_rest, fed-lines)

-- each has a byte at least, so the text after them is shorter
pub lines_are_long : (es : List Event) (text after : List ℕ) → text ≡ event_lines es ++ after → length es + length after ≤ length text
lines_are_long es text after cut = rw cut (go es)
  where
    go : (es : List Event) → length es + length after ≤ length (event_lines es ++ after)
    go [] = omega arith
    go (e ∷ es) =
        omega (
          arith,
          go es,
          ap length (append_assoc (event_line e) (10 ∷ event_lines es) after),
          length-append (event_line e) (10 ∷ (event_lines es ++ after)),
        )

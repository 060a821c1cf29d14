-- Reading a timeline line by line: what is read is spelled, and what is spelled is read.
use Rattle.std.proofs.Common.{◌≡◌, ℕ, ◌+◌, ◌<◌, ◌≤◌, Bool, true, false, List, [], ◌∷◌, ◌++◌, length, map, Option, Some, None, Result}
use Rattle.std.proofs.Common.{Ok, Err, All, refl, sym, ap, ◌∙◌, subst, arith, nat_le, append_assoc, append-nil, length-append}
use Rattle.std.proofs.lemmas.{Bool.{lt-leb}, List.Elements.{All-cons, All-head, All-nil, All-tail}, Slice.Eq.{bytes_eq-Decides}}
use Rattle.std.specs.Str.{bytes_eq}
use Rattle.class_table.proofs.LawLemmas.{plain_name}
use Rattle.line_text.proofs.LawLemmas.{line_faulty as lines_faulty, line_read as lines_read, no_line as no_lines, read_has, text_laws as laws}
use Rattle.line_text.specs.Lines.{IsFullLine, IsTextOf, lines}
use Rattle.tuner_theory.specs.{Profiles.{greatest_count}, declared.size_event.SizeEvent.{SizeEvent}}
use Rattle.history_count.proofs.TimelineLemmas.EventLines.{event_in-line, event_in-read, event_line-full}
use Rattle.history_count.{proofs.TimelineLemmas.Runs.{run-finds, run-more, run-none}, specs.Timelines.Runs.{IsRun, large_size, size_of}}
use Rattle.history_count.specs.Timelines.TimelineText.{SpellsTimeline, event_in, event_line, events_from, finds_live, head_line, next_event}
use Rattle.history_count.specs.Timelines.TimelineText.{timeline_lines, timeline_of, timeline_steps}
use Rattle.history_count.specs.declared.timelines.fault.TimelineFault.{TimelineFault}

-- ---- line by line

pub line_read : (number : ℕ) (events : List SizeEvent) (rest new : List (List ℕ)) (line : List ℕ) (event : SizeEvent) → rest ≡ line ∷ new
    → next_event events line ≡ Ok event → events_from number events rest ≡ events_from (number + 1) (events ++ event ∷ []) new
line_read number events rest new line event parts is = grind (arith, lines_read)

pub line_faulty : (number : ℕ) (events : List SizeEvent) (rest new : List (List ℕ)) (line : List ℕ) (fault : TimelineFault)
    → rest ≡ line ∷ new → next_event events line ≡ Err fault → events_from number events rest ≡ Err (number, fault)
line_faulty number events rest new line fault parts is =
    rw parts (lines_faulty timeline_steps number events line new fault (rw is refl))

pub no_line : (number : ℕ) (events : List SizeEvent) (rest : List (List ℕ)) → rest ≡ [] → events_from number events rest ≡ Ok events
no_line number events rest none = rw none (no_lines timeline_steps number events events refl)

pub head_read : (text line : List ℕ) (rest : List (List ℕ)) → lines text ≡ line ∷ rest → bytes_eq line head_line ≡ true
    → timeline_of text ≡ events_from 2 [] rest
head_read text line rest parts is = rw (parts, is) refl

-- ---- one line

-- What a line adds to the events before it.
pub record IsNextEvent (events : List SizeEvent) (line : List ℕ) (event : SizeEvent) : Type 0 where
  pub read : event_in line ≡ Some event
  pub room : length events < greatest_count
  pub finds : finds_live events event ≡ true

pub next_event-is : (events : List SizeEvent) (line : List ℕ) (event : SizeEvent) → next_event events line ≡ Ok event
    → IsNextEvent events line event
next_event-is events line event e = by_read (event_in line) refl
  where
    by_live : (found : SizeEvent) → event_in line ≡ Some found → (full : Bool) → nat_le greatest_count (length events) ≡ full
        → (live : Bool) → finds_live events found ≡ live → IsNextEvent events line event
    by_live found is true full live finds = let none = rw (is, full) at e in absurd cc
    by_live found is false full false finds = let none = rw (is, full, finds) at e in absurd cc
    by_live found is false full true finds = grind arith

    by_read : (o : Option SizeEvent) → event_in line ≡ o → IsNextEvent events line event
    by_read None is = let none = rw is at e in absurd cc
    by_read (Some found) is = by_live found is (nat_le greatest_count (length events)) refl (finds_live events found) refl

pub next_event-ok : (events : List SizeEvent) (line : List ℕ) (event : SizeEvent) → event_in line ≡ Some event
    → length events < greatest_count → finds_live events event ≡ true → next_event events line ≡ Ok event
next_event-ok events line event read room finds = rw (read, lt-leb greatest_count (length events) room, finds) refl

-- A line that is read goes on with a run.
pub next_run : (events : List SizeEvent) (line : List ℕ) (event : SizeEvent) → IsRun events → next_event events line ≡ Ok event
    → IsRun (events ++ event ∷ [])
next_run events line event run e =
    let is = next_event-is events line event e in
    run-more events event run (event_in-read line event is.read).small is.room is.finds

-- ---- from a text to its events

-- After these events, lines spell the rest of all.
record SpellsRest (events : List SizeEvent) (ls : List (List ℕ)) (all : List SizeEvent) : Type 0 where
  rest : List SizeEvent
  are : all ≡ events ++ rest
  run : IsRun all
  spelled : ls ≡ map event_line rest

abbrev IsReading : List SizeEvent → List (List ℕ) → List SizeEvent → Type 0
IsReading events ls all = IsRun events → SpellsRest events ls all

no_line_spells : (events all : List SizeEvent) → timeline_steps.finish events ≡ Ok all → IsReading events [] all
no_line_spells events all is run = grind (arith, append-nil)

line_spells : (events next : List SizeEvent) (line : List ℕ) (ls : List (List ℕ)) (all : List SizeEvent)
    → timeline_steps.step events line ≡ Ok next → IsReading next ls all → IsReading events (line ∷ ls) all
line_spells events next line ls all is others run = go (next_event events line) refl
  where
    go : (read : Result SizeEvent TimelineFault) → next_event events line ≡ read → SpellsRest events (line ∷ ls) all
    go (Err fault) e = let none = rw e at is in absurd cc
    go (Ok event) e =
        let same : events ++ event ∷ [] ≡ next = (let both = rw e at is in cc) in
        let after = (rw (← same) at others) (next_run events line event run e) in
        let line_is = (event_in-read line event (next_event-is events line event e).read).spelled in
        record {
          rest = event ∷ after.rest;
          are = after.are ∙ append_assoc events (event ∷ []) after.rest;
          run = after.run;
          spelled = ap (λ (l : List ℕ). l ∷ ls) line_is ∙ ap (λ (rest : List (List ℕ)). event_line event ∷ rest) after.spelled;
        }

-- What is read as a timeline is its text.
pub timeline_is_spelled : (text : List ℕ) (events : List SizeEvent) → timeline_of text ≡ Ok events → SpellsTimeline text events
timeline_is_spelled text events e = go (lines text) refl
  where
    by_head : (line : List ℕ) (ls : List (List ℕ)) → lines text ≡ line ∷ ls → (head : Bool) → bytes_eq line head_line ≡ head
        → SpellsTimeline text events
    by_head line ls parts false is = let none = rw (parts, is) at e in absurd cc
    by_head line ls parts true is =
        let read = sym (head_read text line ls parts is) ∙ e in
        let rest = read_has timeline_steps IsReading no_line_spells line_spells ls 2 [] events read run-none in
        let first : line ≡ head_line = grind (arith, bytes_eq-Decides) in
        let are : lines text ≡ timeline_lines events =
        grind arith in
        record { run = rest.run; spelled = subst (IsTextOf text) are (laws.text text) }

    go : (ls : List (List ℕ)) → lines text ≡ ls → SpellsTimeline text events
    go [] parts = let none = rw parts at e in absurd cc
    go (line ∷ ls) parts = by_head line ls parts (bytes_eq line head_line) refl

-- ---- from events to their text

read_rest : (rest : List SizeEvent) (number : ℕ) (events : List SizeEvent) → IsRun (events ++ rest)
    → events_from number events (map event_line rest) ≡ Ok (events ++ rest)
read_rest [] number events run = no_line number events [] refl ∙ ap (λ (l : List SizeEvent). Ok l) (sym (append-nil events))
read_rest (event ∷ rest) number events run =
    let parts : events ++ event ∷ rest ≡ (events ++ event ∷ []) ++ rest = sym (append_assoc events (event ∷ []) rest) in
    let on : IsRun ((events ++ event ∷ []) ++ rest) = rw (append_assoc events (event ∷ []) rest) run in
    let small : size_of event ≤ large_size =
    All-head (λ event. size_of event ≤ large_size) event rest (All-after events (event ∷ rest) run.sizes) in
    let room : length events < greatest_count = omega (arith, run.few, length-append events (event ∷ rest)) in
    let is = next_event-ok events (event_line event) event (event_in-line event small) room (run-finds events rest event on) in
    line_read number events (map event_line (event ∷ rest)) (map event_line rest) (event_line event) event refl is
    ∙ read_rest rest (number + 1) (events ++ event ∷ []) on ∙ ap (λ (l : List SizeEvent). Ok l) (sym parts)
  where
    All-after : (xs ys : List SizeEvent) → All (λ event. size_of event ≤ large_size) (xs ++ ys) → All (λ event. size_of event ≤ large_size) ys
    All-after [] ys all = all
    All-after (x ∷ xs) ys all = All-after xs ys (All-tail (λ event. size_of event ≤ large_size) x (xs ++ ys) all)

pub head_line-full : IsFullLine head_line
head_line-full = let name = plain_name head_line refl (omega arith) in (name.line, omega arith)

event_lines-full : (events : List SizeEvent) → All (λ event. size_of event ≤ large_size) events → All IsFullLine (map event_line events)
event_lines-full [] small = All-nil IsFullLine
event_lines-full (e ∷ es) small =
    All-cons IsFullLine (event_line e) (map event_line es)
    (event_line-full e (All-head (λ event. size_of event ≤ large_size) e es small))
    (event_lines-full es (All-tail (λ event. size_of event ≤ large_size) e es small))

-- The text of a timeline is read as that timeline.
pub spelled_timeline_is_read : (text : List ℕ) (events : List SizeEvent) → SpellsTimeline text events → timeline_of text ≡ Ok events
spelled_timeline_is_read text events spells =
    let full = All-cons IsFullLine head_line (map event_line events) head_line-full (event_lines-full events spells.run.sizes) in
    let are : lines text ≡ timeline_lines events = laws.full_lines (timeline_lines events) text full spells.spelled in
    head_read text head_line (map event_line events) are refl ∙ read_rest events 2 [] spells.run

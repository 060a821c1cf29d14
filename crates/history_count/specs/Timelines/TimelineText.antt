-- A timeline's text: the line `timeline`; then a line for each event, `N` for a request of N bytes and `-N` for a free, with `large` in the
-- place of each size above the largest that is counted.
use Rattle.std.specs.{Fmt.{decimal}, Option.{option_map}, Str.{bytes_eq}}
use Rattle.std.specs.Prelude.{◌≡◌, ℕ, Bool, true, false, List, [], ◌∷◌, ◌++◌, length, map, codes, Option, Some, None, Result, Ok, Err}
use Rattle.std.specs.Prelude.{nat_lt, nat_le, ◌==◌, if◌then◌else◌}
use Rattle.class_table.specs.Sizes.{largest_counted}
use Rattle.line_text.specs.{FirstFault.{◌>>=◌}, Lines.{IsTextOf, lines}, LineSteps.{LineSteps, read_lines}, Numbers.{number_of}}
use Rattle.tuner_theory.specs.{Profiles.{greatest_count}, Timelines.{freed, requested}, declared.size_event.SizeEvent.{SizeEvent}}
use Rattle.tuner_theory.specs.declared.size_event.SizeEvent.TheVariants.{Request, Free}
use Rattle.history_count.specs.{Timelines.Runs.{IsRun, large_size}, declared.timelines.fault.TimelineError.{TimelineError}}
use Rattle.history_count.specs.declared.timelines.fault.{TimelineError.TheVariants.{OutOfMemory, Line}, TimelineFault.{TimelineFault}}
use Rattle.history_count.specs.declared.timelines.fault.TimelineFault.TheVariants.{BadTimeline, NotLive}

-- ---- the spelling

abbrev pub head_line : List ℕ
head_line = codes "timeline"

abbrev pub size_word : ℕ → List ℕ
size_word n = if n == large_size then codes "large" else decimal n

abbrev pub event_line : SizeEvent → List ℕ
event_line (Request n) = size_word n
event_line (Free n) = codes "-" ++ size_word n

abbrev pub timeline_lines : List SizeEvent → List (List ℕ)
timeline_lines events = head_line ∷ map event_line events

-- The text spells these events, its last line with its newline or without.
pub record SpellsTimeline (text : List ℕ) (events : List SizeEvent) : Type 0 where
  pub run : IsRun events
  pub spelled : IsTextOf text (timeline_lines events)

-- ---- reading a line

abbrev pub counted_size : Option ℕ → Option ℕ
counted_size None = None
counted_size (Some n) = if nat_le n largest_counted then Some n else None

-- The size that a word spells.
abbrev pub size_in : List ℕ → Option ℕ
size_in word = if bytes_eq word (codes "large") then Some large_size else counted_size (number_of word)

-- The event that a line spells; 45 is `-`.
abbrev pub event_in : List ℕ → Option SizeEvent
event_in [] = None
event_in (b ∷ word) = if b == 45 then option_map (λ n. Free n) (size_in word) else option_map (λ n. Request n) (size_in (b ∷ word))

-- What comes after the sign of a free, 45, if a text begins with it.
abbrev pub IsSigned : List ℕ → Bool → List ℕ → Type 0
IsSigned text true word = text ≡ 45 ∷ word
IsSigned text false word = word ≡ text

abbrev pub event_of : Bool → ℕ → SizeEvent
event_of true n = Free n
event_of false n = Request n

-- A free has to find a live block of its size.
abbrev pub finds_live : List SizeEvent → SizeEvent → Bool
finds_live events (Request n) = true
finds_live events (Free n) = nat_lt (freed events n) (requested events n)

abbrev pub may_follow : List SizeEvent → Option SizeEvent → Result SizeEvent TimelineFault
may_follow events None = Err BadTimeline
may_follow events (Some event) =
    if nat_le greatest_count (length events) then Err BadTimeline
    else if finds_live events event then Ok event
    else Err NotLive

-- What a line adds to the events before it.
abbrev pub next_event : List SizeEvent → List ℕ → Result SizeEvent TimelineFault
next_event events line = may_follow events (event_in line)

-- ---- reading line by line

abbrev pub timeline_steps : LineSteps (List SizeEvent) (List SizeEvent) TimelineFault
timeline_steps = record {
  step = λ events line. next_event events line >>= λ event. Ok (events ++ event ∷ []);
  finish = λ events. Ok events;
}

-- What the lines spell, after the events so far: events, or the number of the first faulty line and its fault. The first of the lines has
-- this number.
abbrev pub events_from : ℕ → List SizeEvent → List (List ℕ) → Result (List SizeEvent) (ℕ × TimelineFault)
events_from number events ls = read_lines timeline_steps number events ls

abbrev pub events_after : Bool → List (List ℕ) → Result (List SizeEvent) (ℕ × TimelineFault)
events_after true ls = events_from 2 [] ls
events_after false ls = Err (1, BadTimeline)

abbrev pub timeline_of_lines : List (List ℕ) → Result (List SizeEvent) (ℕ × TimelineFault)
timeline_of_lines [] = Err (1, BadTimeline)
timeline_of_lines (line ∷ ls) = events_after (bytes_eq line head_line) ls

-- The events that a text spells, or its first faulty line's number and fault.
abbrev pub timeline_of : List ℕ → Result (List SizeEvent) (ℕ × TimelineFault)
timeline_of text = timeline_of_lines (lines text)

-- The text is refused as a timeline at this line.
abbrev pub IsRefusedAt : ℕ → List ℕ → Type 0
IsRefusedAt n text = (fault : TimelineFault) × (timeline_of text ≡ Err (n, fault))

-- What a reader returned is what the definition says, unless memory ran out.
abbrev pub GivesTimeline : Result (List SizeEvent) TimelineError → Result (List SizeEvent) (ℕ × TimelineFault) → Type 0
GivesTimeline (Ok events) read = read ≡ Ok events
GivesTimeline (Err OutOfMemory) read = Unit {0}
GivesTimeline (Err (Line number fault)) read = read ≡ Err (number, fault)

-- The line at which a text is refused as a timeline is its first fault.
use Rattle.std.proofs.Common.{◌≡◌, ℕ, ◌≤◌, max, Bool, true, false, List, [], ◌∷◌, length, Option, None, Result, Ok, Err, ◌↔◌, refl, sym, ◌∙◌}
use Rattle.std.{proofs.Common.{if◌then◌else◌}, specs.Str.{bytes_eq}}
use Rattle.line_text.proofs.LawLemmas.{IsFormat, headed, headed_ends, headed_goes_on, read_after_head, refused_at_first_fault}
use Rattle.line_text.proofs.LawLemmas.{refused_line_within_or_first}
use Rattle.line_text.specs.{FirstFault.{IsFirstFault}, Lines.{lines}, LineSteps.{LineSteps, read_lines}}
use Rattle.tuner_theory.specs.declared.size_event.SizeEvent.{SizeEvent}
use Rattle.history_count.proofs.TimelineLemmas.LineByLine.{head_line-full, spelled_timeline_is_read, timeline_is_spelled}
use Rattle.history_count.specs.Timelines.TimelineText.{IsRefusedAt, SpellsTimeline, head_line, timeline_of_lines, timeline_steps}
use Rattle.history_count.specs.declared.timelines.fault.{TimelineFault.{TimelineFault}, TimelineFault.TheVariants.{BadTimeline}}

-- ---- one reading of all lines

head : List ℕ → Result (List SizeEvent) TimelineFault
head line = if bytes_eq line head_line then Ok [] else Err BadTimeline

steps : LineSteps (Option (List SizeEvent)) (List SizeEvent) TimelineFault
steps = headed head BadTimeline timeline_steps

start : Option (List SizeEvent)
start = None

all_lines : (ls : List (List ℕ)) → timeline_of_lines ls ≡ read_lines steps 1 start ls
unfolding head steps start read_lines
all_lines [] = refl
all_lines (line ∷ ls) = go (bytes_eq line head_line) refl
  where
    go : (is_head : Bool) → bytes_eq line head_line ≡ is_head → timeline_of_lines (line ∷ ls) ≡ read_lines steps 1 start (line ∷ ls)
    go false is = rw is refl
    go true is = rw is (sym (read_after_head head BadTimeline timeline_steps ls 2 []))

-- A timeline may end after any line.
ends : (s next : Option (List SizeEvent)) (line : List ℕ) → steps.step s line ≡ Ok next
    → (events : List SizeEvent) × (steps.finish next ≡ Ok events)
unfolding steps
ends = headed_ends head BadTimeline timeline_steps (λ events. (events, refl))

format : IsFormat steps start SpellsTimeline
unfolding head steps
format = record {
  spelled = λ text events is. timeline_is_spelled text events (all_lines (lines text) ∙ is);
  read = λ text events spells. sym (all_lines (lines text)) ∙ spelled_timeline_is_read text events spells;
  goes_on = headed_goes_on head BadTimeline timeline_steps (λ events. (events, refl)) head_line [] head_line-full.0 refl;
}

-- ---- the first fault

refused : (text : List ℕ) (n : ℕ) → IsRefusedAt n text → (fault : TimelineFault) × (read_lines steps 1 start (lines text) ≡ Err (n, fault))
refused text n is = (is.0, sym (all_lines (lines text)) ∙ is.1)

pub first_fault_is_refused : (text : List ℕ) (n : ℕ) → IsRefusedAt n text ↔ IsFirstFault SpellsTimeline text n
first_fault_is_refused text n =
    let both = refused_at_first_fault steps start SpellsTimeline format text n in (
      λ is. both.0 (refused text n is),
      λ first. let is = both.1 first in (is.0, all_lines (lines text) ∙ is.1),
    )

-- The line of a fault is there, unless it is the first.
pub refused_line_is_there : (text : List ℕ) (n : ℕ) → IsRefusedAt n text → n ≤ max 1 (length (lines text))
refused_line_is_there text n is = refused_line_within_or_first steps start SpellsTimeline format ends text n (refused text n is)

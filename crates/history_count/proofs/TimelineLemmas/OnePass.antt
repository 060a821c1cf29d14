-- A line that is read in one pass.
use Rattle.std.proofs.Common.{◌≡◌, ℕ, ◌≤◌, Bool, true, false, List, [], ◌∷◌, drop, length, Option, Some, None, option_and_then, refl}
use Rattle.std.proofs.{Common.{ap, ◌∙◌, arith, eqb, get_or, slice_get, ◌<◌, ◌++◌, Ok, Err, cond}}
use Rattle.std.specs.Int.{from_bool}
use Rattle.class_table.specs.Sizes.{largest_counted}
use Rattle.line_text.{proofs.LawLemmas.{text_laws as laws}, specs.Lines.{lines}, specs.Numbers.{number_of}}
use Rattle.line_text.specs.Rows.{IsRow}
use Rattle.tuner_theory.specs.{Profiles.{greatest_count}, declared.size_event.SizeEvent.{SizeEvent}}
use Rattle.tuner_theory.specs.declared.size_event.SizeEvent.TheVariants.{Request, Free}
use Rattle.history_count.proofs.TimelineLemmas.{EventLines.{request_in, size_in-counted}, LineByLine.{next_run}}
use Rattle.history_count.{proofs.TimelineLemmas.Pieces.{taken_faulty, taken_more}, specs.Timelines.Pieces.{AreTaken}}
use Rattle.history_count.specs.{Timelines.Runs.{AreLiveCounts, IsRun}, declared.timelines.fault.TimelineFault.{TimelineFault}}
use Rattle.history_count.specs.Timelines.TimelineText.{IsSigned, counted_size, event_in, event_of, finds_live, may_follow, next_event}
use Rattle.history_count.specs.declared.timelines.fault.TimelineFault.TheVariants.{NotLive}

-- the counted size that the first line spells
abbrev pub first_size : List (List ℕ) → Option ℕ
first_size ls = option_and_then (λ line. counted_size (number_of line)) (slice_get ls 0)

-- the event that the first line spells
abbrev pub first_event : List (List ℕ) → Option SizeEvent
first_event ls = option_and_then event_in (slice_get ls 0)

-- a row without further numbers is a line with one number
pub row-size : (ls : List (List ℕ)) (n : ℕ) → IsRow (slice_get ls 0) n [] → n ≤ largest_counted → first_size ls ≡ Some n
row-size ls n row le = grind (arith, laws)

size-request : (ls : List (List ℕ)) (n : ℕ) → first_size ls ≡ Some n → first_event ls ≡ Some (Request n)
size-request [] n is = absurd cc
size-request (line ∷ ls) n is = request_in line n (size_in-counted line n is)

-- `-` before a text is before its first line
size-free : (text : List ℕ) (n : ℕ) → first_size (lines text) ≡ Some n → first_event (lines (45 ∷ text)) ≡ Some (Free n)
unfolding lines
size-free text n is = grind (arith, size_in-counted)

drop-free : (text : List ℕ) (n : ℕ) → first_size (lines text) ≡ Some n → drop 1 (lines (45 ∷ text)) ≡ drop 1 (lines text)
unfolding lines
drop-free text n is = grind arith

-- a text is cut after its sign
pub signed-cut : (text : List ℕ) (is_free : Bool) → 0 < length text → is_free ≡ eqb (get_or text 0 0) 45
    → IsSigned text is_free (drop (from_bool is_free) text)
signed-cut text is_free some is = grind arith

pub signed-event : (text word : List ℕ) (is_free : Bool) (n : ℕ) → IsSigned text is_free word → first_size (lines word) ≡ Some n
    → first_event (lines text) ≡ Some (event_of is_free n)
signed-event text word true n is size = rw is (size-free word n size)
signed-event text word false n is size = size-request (lines text) n (rw is at size)

pub signed-rest : (text word : List ℕ) (is_free : Bool) (n : ℕ) → IsSigned text is_free word → first_size (lines word) ≡ Some n
    → drop 1 (lines word) ≡ drop 1 (lines text)
signed-rest text word is_free n is size = grind (arith, drop-free)

-- the line of which an event was read, or that spells none
pub record IsNextLine (ls new : List (List ℕ)) (spelled : Option SizeEvent) : Type 0 where
  pub line : List ℕ
  pub parts : ls ≡ line ∷ new
  pub read : event_in line ≡ spelled

pub counted-line : (ls new : List (List ℕ)) (event : SizeEvent) → first_event ls ≡ Some event → new ≡ drop 1 ls → IsNextLine ls new (Some event)
counted-line ls new event is rest = grind arith

-- ---- lines that are taken

pub follows : (events : List SizeEvent) (event : SizeEvent) (is_live : Bool) → length events < greatest_count → is_live ≡ finds_live events event
    → may_follow events (Some event) ≡ cond is_live (Ok event) (Err NotLive)
follows events event is_live room is = grind arith

pub taken-none : (events : List SizeEvent) (live : List ℕ) (ls : List (List ℕ)) → IsRun events → AreLiveCounts events live
    → AreTaken events events None live ls ls
taken-none events live ls run are = record { run = run; live = are; read = λ more. refl }

module _ (before events : List SizeEvent) (live : List ℕ) (ls now new : List (List ℕ)) (taken : AreTaken before events None live ls now) where
  -- a line of which an event was read,
  pub taken-event : (spelled : Option SizeEvent) (event : SizeEvent) (counts : List ℕ) → IsNextLine now new spelled
      → may_follow events spelled ≡ Ok event → AreLiveCounts (events ++ event ∷ []) counts
      → AreTaken before (events ++ event ∷ []) None counts ls new
  taken-event spelled event counts next follow are = grind (arith, next_run, taken_more)

  -- a faulty one, after which the others do not matter,
  pub taken-fault : (spelled : Option SizeEvent) (fault : TimelineFault) (counts : List ℕ) → IsNextLine now new spelled
      → may_follow events spelled ≡ Err fault → AreTaken before events (Some fault) counts ls new
  taken-fault spelled fault counts next follow =
      let is : next_event events next.line ≡ Err fault = ap (may_follow events) next.read ∙ follow in
      record {
        run = taken.run;
        live = tt;
        read = λ more. taken.read more ∙ taken_faulty events now new next.line fault next.parts is more;
      }

-- Reading a timeline in pieces.
use Rattle.std.proofs.Common.{◌≡◌, ℕ, ◌+◌, ◌<◌, ◌≤◌, false, List, [], ◌∷◌, ◌++◌, length, Option, Some, None, Ok, Err, refl, sym}
use Rattle.std.proofs.Common.{ap, ◌∙◌, arith, append_assoc, append-nil, eqb, eqb-true, length-append, take, drop}
use Rattle.std.proofs.{Common.{get_or}, lemmas.Bool.{false_from_ne_true}}
use Rattle.std.{proofs.lemmas.Fmt.{length-decimal-le}, proofs.lemmas.List.{get_or-drop, length-drop, take_more}, specs.List.{onto_first}}
use Rattle.std.{proofs.lemmas.List.Elements.{All-from_get_or, All-head, All-tail}, specs.Option.{is_some}}
use Rattle.memchr.specs.Find.{IsLastByte, is_byte}
use Rattle.line_text.{proofs.LawLemmas.{line_in_front_is_read}, specs.Lines.{IsLine, ended, is_newline, lines}}
use Rattle.tuner_theory.specs.declared.size_event.{SizeEvent.{SizeEvent}}
use Rattle.history_count.{proofs.TimelineLemmas.EventLines.{event_in-read}, specs.Timelines.Runs.{large_size, size_of}}
use Rattle.history_count.proofs.TimelineLemmas.LineByLine.{head_line-full, head_read, line_faulty, line_read, no_line}
use Rattle.history_count.specs.Timelines.Pieces.{AreTaken, AreWholeLines, IsFed, IsReadingOf, Reading, going_on, nothing_read}
use Rattle.history_count.specs.Timelines.TimelineText.{event_in, event_line, events_from, head_line, next_event, size_word, timeline_of}
use Rattle.history_count.specs.declared.timelines.fault.{TimelineFault.{TimelineFault}, TimelineFault.TheVariants.{BadTimeline}}

-- ---- one piece after another

pub nothing_is_read : IsReadingOf nothing_read []
nothing_is_read more = refl

pub fed_then : (a b c : Reading) (p q : List ℕ) → IsFed a p b → IsFed b q c → IsFed a (p ++ q) c
fed_then a b c p q first second more = grind (arith, append_assoc)

pub fed_reading : (old new : Reading) (bytes piece : List ℕ) → IsReadingOf old bytes → IsFed old piece new
    → IsReadingOf new (bytes ++ piece)
fed_reading old new bytes piece reading fed more = grind (arith, append_assoc)

pub is_unfailed : (fault : Option TimelineFault) → is_some fault ≡ false → fault ≡ None
is_unfailed fault is = grind arith

-- ---- whole lines

onto_first-append : (b : ℕ) (xs ys : List (List ℕ)) → 0 < length xs → onto_first b (xs ++ ys) ≡ onto_first b xs ++ ys
onto_first-append b xs ys some = grind arith

lines-some : (text : List ℕ) → 0 < length text → 0 < length (lines text)
unfolding lines
lines-some [] some = absurd (omega (arith, some))
lines-some (b ∷ text) some = grind arith

pub whole_none : AreWholeLines []
unfolding lines
whole_none more = refl

pub whole_ended : (text : List ℕ) → AreWholeLines (text ++ 10 ∷ [])
unfolding lines
whole_ended [] more = refl
whole_ended (b ∷ text) more = grind (arith, whole_ended text more, onto_first-append, lines-some, length-append)

-- a text that ends after its last newline
pub whole_before : (text : List ℕ) (end : ℕ) → IsLastByte (is_byte 10) text (Some end) → AreWholeLines (take (end + 1) text)
whole_before text end last =
    let newline : get_or text end 0 ≡ 10 = eqb-true (get_or text end 0) 10 last.1 in
    let is : take (end + 1) text ≡ take end text ++ 10 ∷ [] =
    take_more text end 0 last.0.high ∙ ap (λ (b : ℕ). take end text ++ b ∷ []) newline in
    grind (arith, whole_ended)

-- what comes after its last newline
pub line_after : (text : List ℕ) (end : ℕ) → IsLastByte (is_byte 10) text (Some end) → IsLine (drop (end + 1) text)
line_after text end last =
    All-from_get_or (λ b. eqb b 10 ≡ false) (drop (end + 1) text) 0 (grind (arith, length-drop, get_or-drop))

pub line_without : (text : List ℕ) → IsLastByte (is_byte 10) text None → IsLine text
line_without text none =
    All-from_get_or (λ b. eqb b 10 ≡ false) text 0 (λ k lt. false_from_ne_true _ (none k (omega arith) lt))

-- ---- an unfinished line

-- a text that begins within its first line
record Begins (line more : List ℕ) : Type 0 where
  end : List ℕ
  others : List (List ℕ)
  are : lines (line ++ more) ≡ (line ++ end) ∷ others

begins : (b : ℕ) (line more : List ℕ) → IsLine (b ∷ line) → Begins (b ∷ line) more
unfolding lines
begins b [] more is = go (lines more) refl
  where
    go : (ls : List (List ℕ)) → lines more ≡ ls → Begins (b ∷ []) more
    go [] are = record { end = []; others = []; are = rw (All-head (λ x. is_newline x ≡ false) b [] is, are) refl }
    go (l ∷ ls) are = record { end = l; others = ls; are = rw (All-head (λ x. is_newline x ≡ false) b [] is, are) refl }
begins b (c ∷ line) more is =
    let rest = begins c line more (All-tail (λ x. is_newline x ≡ false) b (c ∷ line) is) in
    grind (arith, All-head)

size_word-short : (n : ℕ) → n ≤ large_size → length (size_word n) ≤ 5
size_word-short n le = grind (arith, length-decimal-le)

event_line-short : (event : SizeEvent) → size_of event ≤ large_size → length (event_line event) ≤ 6
event_line-short event le = grind (arith, size_word-short)

long_line : (line : List ℕ) → 6 < length line → event_in line ≡ None
long_line line long = go (event_in line) refl
  where
    go : (o : Option SizeEvent) → event_in line ≡ o → event_in line ≡ None
    go None is = is
    go (Some event) is =
        let read = event_in-read line event is in
        absurd (omega (arith, event_line-short event read.small, ap length read.spelled, long))

-- A line that is too long is faulty, whatever comes after it.
pub long_rest : (events : List SizeEvent) (line more : List ℕ) → IsLine line → 6 < length line
    → going_on events None (lines (line ++ more)) ≡ Err (length events + 2, BadTimeline)
long_rest events [] more is long = absurd (omega (arith, long))
long_rest events (b ∷ line) more is long =
    let begun = begins b line more is in
    let longer : 6 < length ((b ∷ line) ++ begun.end) = omega (arith, long, length-append (b ∷ line) begun.end) in
    let none : next_event events ((b ∷ line) ++ begun.end) ≡ Err BadTimeline = rw (long_line ((b ∷ line) ++ begun.end) longer) refl in
    line_faulty (length events + 2) events (lines ((b ∷ line) ++ more)) begun.others ((b ∷ line) ++ begun.end) BadTimeline begun.are none

-- ---- lines that are taken

pub taken_more : (events : List SizeEvent) (ls new : List (List ℕ)) (line : List ℕ) (event : SizeEvent) → ls ≡ line ∷ new
    → next_event events line ≡ Ok event → (more : List (List ℕ))
    → going_on events None (ls ++ more) ≡ going_on (events ++ event ∷ []) None (new ++ more)
taken_more events ls new line event parts is more =
    let number : length events + 2 + 1 ≡ length (events ++ event ∷ []) + 2 = omega (arith, length-append events (event ∷ [])) in
    grind (arith, line_read)

pub taken_faulty : (events : List SizeEvent) (ls new : List (List ℕ)) (line : List ℕ) (fault : TimelineFault) → ls ≡ line ∷ new
    → next_event events line ≡ Err fault → (more : List (List ℕ))
    → going_on events None (ls ++ more) ≡ going_on events (Some fault) more
taken_faulty events ls new line fault parts is more =
    line_faulty (length events + 2) events (ls ++ more) (new ++ more) line fault (ap (λ (l : List (List ℕ)). l ++ more) parts) is

-- ---- the steps of a reader

pub fed_newline : (old new : Reading) (live kept : List ℕ) → IsLine old.rest → old.fault ≡ None → kept ≡ old.rest ++ 10 ∷ []
    → new.rest ≡ [] → AreTaken old.events new.events new.fault live (lines kept) [] → IsFed old (10 ∷ []) new
fed_newline old new live kept is unfailed kept-is start' taken more =
    let all : lines (old.rest ++ 10 ∷ more) ≡ lines kept ++ lines more =
    ap lines (sym (append_assoc old.rest (10 ∷ []) more)) ∙ whole_ended old.rest more
    ∙ ap (λ (text : List ℕ). lines text ++ lines more) (sym kept-is) in
    rw (unfailed, start') (ap (going_on old.events None) all ∙ taken.read (lines more))

pub fed_too_long : (old new : Reading) (bytes : List ℕ) → IsLine (old.rest ++ bytes) → 6 < length (old.rest ++ bytes) → old.fault ≡ None
    → new.events ≡ old.events → new.fault ≡ Some BadTimeline → IsFed old bytes new
fed_too_long old new bytes is long unfailed events fault more = grind (arith, append_assoc, long_rest)

-- ---- the end

pub head_is_in_front : (bytes : List ℕ) → lines (ended head_line ++ bytes) ≡ head_line ∷ lines bytes
head_is_in_front bytes = line_in_front_is_read head_line bytes head_line-full.0

pub after_head : (bytes : List ℕ) → timeline_of (ended head_line ++ bytes) ≡ events_from 2 [] (lines bytes)
after_head bytes = head_read (ended head_line ++ bytes) head_line (lines bytes) (head_is_in_front bytes) refl

pub all_is_read : (reading : Reading) (bytes : List ℕ) → IsReadingOf reading bytes
    → timeline_of (ended head_line ++ bytes) ≡ going_on reading.events reading.fault (lines reading.rest)
all_is_read reading bytes is =
    after_head bytes ∙ ap (λ (text : List ℕ). events_from 2 [] (lines text)) (sym (append-nil bytes)) ∙ is []
    ∙ ap (λ (text : List ℕ). going_on reading.events reading.fault (lines text)) (append-nil reading.rest)

pub stopped : (reading : Reading) (bytes : List ℕ) (fault : TimelineFault) → IsReadingOf reading bytes → reading.fault ≡ Some fault
    → timeline_of (ended head_line ++ bytes) ≡ Err (length reading.events + 2, fault)
stopped reading bytes fault is failed =
    all_is_read reading bytes is ∙ ap (λ o. going_on reading.events o (lines reading.rest)) failed

-- the unfinished line is the last one
pub last_is_taken : (reading : Reading) (bytes live : List ℕ) (after : List SizeEvent) (fault : Option TimelineFault)
    → IsReadingOf reading bytes → reading.fault ≡ None → AreTaken reading.events after fault live (lines reading.rest) []
    → timeline_of (ended head_line ++ bytes) ≡ going_on after fault []
last_is_taken reading bytes live after fault is unfailed taken =
    all_is_read reading bytes is ∙ ap (λ o. going_on reading.events o (lines reading.rest)) unfailed
    ∙ ap (going_on reading.events None) (sym (append-nil (lines reading.rest))) ∙ taken.read []

pub ends_open : (events : List SizeEvent) → going_on events None [] ≡ Ok events
ends_open events = no_line (length events + 2) events [] refl

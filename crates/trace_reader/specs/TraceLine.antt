-- A line of a trace: how an event is spelled, and which event, or which fault, a line is.
use Rattle.std.specs.{Fmt.{decimal, signed_decimal}, List.{list_any}, Str.{bytes_eq}}
use Rattle.std.specs.Prelude.{List, [], ◌∷◌, ◌++◌, length, codes, Option, Some, None, Result, Ok, Err, nat_lt, nat_le, ◌==◌, if◌then◌else◌}
use Rattle.std.specs.Prelude.{Bool, ℕ, ℤ, nat_abs, ◌&&◌}
use Rattle.line_text.specs.{FirstFault.{◌>>=◌}, Hexadecimal.{hex_of, hex}, Lines.{words, line_of}, Numbers.{number_of}, Signed.{signed_of}}
use Rattle.trace_event.specs.declared.event.{Event.{Event}, Event.TheVariants.{Malloc, Calloc, Realloc, Free, Load, Store, Addg, Subg}}
use Rattle.trace_event.specs.declared.event.TheConstants.Event.{LAST_VARIABLE, LARGEST_REQUEST, LONGEST_ACCESS, FARTHEST_ACCESS}
use Rattle.trace_event.specs.declared.event.TheConstants.Event.{FARTHEST_MOVE, LARGEST_TAG_STEP}
use Rattle.trace_reader.specs.declared.{fault.TraceFault.{TraceFault}, line.TheConstants.{LONGEST_LINE, MOST_EVENTS}}
use Rattle.trace_reader.specs.declared.fault.TraceFault.TheVariants.{BadWord, BadNumber, OutOfRange, LineTooLong, TooManyEvents}

-- The most bytes of a line, without its newline.
abbrev pub longest_line : ℕ
longest_line = LONGEST_LINE

-- The most events of a trace, one for each line.
abbrev pub most_events : ℕ
most_events = MOST_EVENTS

-- ---- the spelling

abbrev pub request_words : List ℕ → ℕ → ℕ → List (List ℕ)
request_words name v n = name ∷ decimal v ∷ decimal n ∷ []

abbrev pub move_words : List ℕ → ℕ → ℕ → ℕ → ℕ → List (List ℕ)
move_words name v w u6 u4 = name ∷ decimal v ∷ decimal w ∷ decimal u6 ∷ decimal u4 ∷ []

abbrev pub event_words : Event → List (List ℕ)
event_words (Malloc v n) = request_words (codes "malloc") v n
event_words (Calloc v n) = request_words (codes "calloc") v n
event_words (Realloc v n) = request_words (codes "realloc") v n
event_words (Free v) = codes "free" ∷ decimal v ∷ []
event_words (Load v off len) = codes "load" ∷ decimal v ∷ signed_decimal off ∷ decimal len ∷ []
event_words (Store v off len byte) = codes "store" ∷ decimal v ∷ signed_decimal off ∷ decimal len ∷ hex byte ∷ []
event_words (Addg v w u6 u4) = move_words (codes "addg") v w u6 u4
event_words (Subg v w u6 u4) = move_words (codes "subg") v w u6 u4

-- The line of an event.
abbrev pub event_line : Event → List ℕ
event_line event = line_of (event_words event)

-- The lines of events, each with its newline.
abbrev pub event_lines : List Event → List ℕ
event_lines [] = []
event_lines (event ∷ events) = event_line event ++ 10 ∷ event_lines events

-- ---- reading a word

abbrev pub ranged : {A : Type 0} → (A → Bool) → Option A → Result A TraceFault
ranged test None = Err BadNumber
ranged test (Some x) = if test x then Ok x else Err OutOfRange

-- The number from low to high that a word spells.
abbrev pub number_from : ℕ → ℕ → List ℕ → Result ℕ TraceFault
number_from low high word = ranged (λ n. nat_le low n && nat_le n high) (number_of word)

abbrev pub variable_of : List ℕ → Result ℕ TraceFault
variable_of word = number_from 0 LAST_VARIABLE word

abbrev pub size_of : List ℕ → Result ℕ TraceFault
size_of word = number_from 0 LARGEST_REQUEST word

abbrev pub offset_of : List ℕ → Result ℤ TraceFault
offset_of word = ranged (λ z. nat_le (nat_abs z) FARTHEST_ACCESS) (signed_of word)

abbrev pub len_of : List ℕ → Result ℕ TraceFault
len_of word = number_from 1 LONGEST_ACCESS word

abbrev pub byte_of : List ℕ → Result ℕ TraceFault
byte_of word = ranged (λ n. Bool.true) (hex_of word)

-- ---- the words after an event's name: the leftmost faulty one decides

abbrev pub request_of : (ℕ → ℕ → Event) → List (List ℕ) → Result Event TraceFault
request_of event (v ∷ n ∷ []) = do
  v ← variable_of v
  n ← size_of n
  Ok (event v n)
request_of event other = Err BadWord

abbrev pub free_of : List (List ℕ) → Result Event TraceFault
free_of (v ∷ []) = do
  v ← variable_of v
  Ok (Free v)
free_of other = Err BadWord

abbrev pub load_of : List (List ℕ) → Result Event TraceFault
load_of (v ∷ off ∷ len ∷ []) = do
  v ← variable_of v
  off ← offset_of off
  len ← len_of len
  Ok (Load v off len)
load_of other = Err BadWord

abbrev pub store_of : List (List ℕ) → Result Event TraceFault
store_of (v ∷ off ∷ len ∷ byte ∷ []) = do
  v ← variable_of v
  off ← offset_of off
  len ← len_of len
  byte ← byte_of byte
  Ok (Store v off len byte)
store_of other = Err BadWord

abbrev pub move_of : (ℕ → ℕ → ℕ → ℕ → Event) → List (List ℕ) → Result Event TraceFault
move_of event (v ∷ w ∷ u6 ∷ u4 ∷ []) = do
  v ← variable_of v
  w ← variable_of w
  u6 ← number_from 0 FARTHEST_MOVE u6
  u4 ← number_from 0 LARGEST_TAG_STEP u4
  Ok (event v w u6 u4)
move_of event other = Err BadWord

-- What is made of the numbers of an event.
abbrev pub made : {A : Type 0} → (A → Event) → Result A TraceFault → Result Event TraceFault
made event (Ok numbers) = Ok (event numbers)
made event (Err fault) = Err fault

-- ---- reading a line

abbrev pub event_named : List ℕ → List (List ℕ) → Result Event TraceFault
event_named name ws =
    if bytes_eq name (codes "malloc") then request_of Malloc ws
    else if bytes_eq name (codes "calloc") then request_of Calloc ws
    else if bytes_eq name (codes "realloc") then request_of Realloc ws
    else if bytes_eq name (codes "free") then free_of ws
    else if bytes_eq name (codes "load") then load_of ws
    else if bytes_eq name (codes "store") then store_of ws
    else if bytes_eq name (codes "addg") then move_of Addg ws
    else if bytes_eq name (codes "subg") then move_of Subg ws
    else Err BadWord

abbrev pub is_empty_word : List ℕ → Bool
is_empty_word word = length word == 0

abbrev pub event_of_full_words : List (List ℕ) → Result Event TraceFault
event_of_full_words [] = Err BadWord
event_of_full_words (name ∷ ws) = event_named name ws

-- The event of a line of these words; an empty word is a fault before all others.
unfoldable pub event_of_words : List (List ℕ) → Result Event TraceFault
event_of_words ws = if list_any is_empty_word ws then Err BadWord else event_of_full_words ws

-- The event that the line of this number spells, or the line's fault.
unfoldable pub event_of_line : ℕ → List ℕ → Result Event TraceFault
event_of_line number line =
    if nat_lt longest_line (length line) then Err LineTooLong
    else if nat_lt most_events number then Err TooManyEvents
    else event_of_words (words line)

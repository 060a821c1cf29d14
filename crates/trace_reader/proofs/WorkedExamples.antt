-- Texts of traces, worked out: their events, and their first fault with its line.
use Rattle.std.proofs.Common.{◌≡◌, ℕ, List, [], ◌∷◌, ◌++◌, Some, None, Ok, Err, refl, pos, negsuc, codes, replicate}
use Rattle.line_text.specs.{Hexadecimal.{hex_of}, Lines.{lines, words, text_of}, Numbers.{number_of}, Signed.{signed_of}}
use Rattle.trace_event.specs.declared.event.Event.TheVariants.{Malloc, Calloc, Realloc, Free, Load, Store, Addg, Subg}
use Rattle.trace_reader.specs.{Reading.{Reading, cut, fed, finished, nothing_read}, Reading.State.{Open, Failed, Finished}}
use Rattle.trace_reader.specs.{TraceLine.{event_of_line, event_of_words}, TraceText.{Trace, trace_from, trace_of}}
use Rattle.trace_reader.specs.declared.fault.{TraceError.TheVariants.{Line}, TraceFault.{TraceFault}}
use Rattle.trace_reader.specs.declared.fault.TraceFault.TheVariants.{BadWord, BadNumber, OutOfRange, LineTooLong, TooManyEvents}

-- ---- whole texts

unfoldable shown : List ℕ → Trace
unfolding lines words number_of signed_of hex_of event_of_words event_of_line trace_from
shown text = trace_of text

abbrev fault_at : ℕ → TraceFault → Trace
fault_at number fault = record { events = []; fault = Some (number, fault) }

accesses_of_one_chunk :
    shown (text_of (
    codes "malloc 1 100"
    ∷ codes "malloc 2 1"
    ∷ codes "malloc 3 1009"
    ∷ codes "malloc 4 16369"
    ∷ codes "load 1 96 16"
    ∷ codes "load 1 104 16"
    ∷ codes "load 2 0 1"
    ∷ codes "load 1 -16 1"
    ∷ codes "load 1 -17 1"
    ∷ []) ++ codes "load 1 1008 1")
    ≡ record {
      events =
          Malloc 1 100 ∷ Malloc 2 1 ∷ Malloc 3 1009 ∷ Malloc 4 16369 ∷ Load 1 (pos 96) 16 ∷ Load 1 (pos 104) 16 ∷ Load 2 (pos 0) 1 ∷ Load 1
          (negsuc 15) 1 ∷ Load 1 (negsuc 16) 1
          ∷ Load 1 (pos 1008) 1 ∷ [];
      fault = None;
    }
unfolding shown
accesses_of_one_chunk = refl

every_kind_of_event :
    shown (text_of (
    codes "malloc 0 0"
    ∷ codes "calloc 1023 2147483647"
    ∷ codes "realloc 7 32"
    ∷ codes "free 1023"
    ∷ codes "load 1 -1048576 64"
    ∷ codes "store 2 1048576 1 a0"
    ∷ codes "addg 6 5 63 15"
    ∷ codes "subg 3 3 0 0"
    ∷ []))
    ≡ record {
      events =
          Malloc 0 0 ∷ Calloc 1023 2147483647 ∷ Realloc 7 32 ∷ Free 1023 ∷ Load 1 (negsuc 1048575) 64 ∷ Store 2 (pos 1048576) 1 160 ∷ Addg 6
          5 63 15 ∷ Subg 3 3 0 0 ∷ [];
      fault = None;
    }
unfolding shown
every_kind_of_event = refl

too_few_words : shown (codes "load 1 0") ≡ fault_at 1 BadWord
unfolding shown
too_few_words = refl

needless_zero : shown (codes "malloc 01 1") ≡ fault_at 1 BadNumber
unfolding shown
needless_zero = refl

minus_zero : shown (codes "load 1 -0 1") ≡ fault_at 1 BadNumber
unfolding shown
minus_zero = refl

no_such_variable : shown (codes "malloc 1024 1") ≡ fault_at 1 OutOfRange
unfolding shown
no_such_variable = refl

eighty_one_letters : shown (replicate 81 97) ≡ fault_at 1 LineTooLong
unfolding shown
eighty_one_letters = refl

words_are_counted_before_they_are_read : shown (codes "malloc 01 1024 1") ≡ fault_at 1 BadWord
unfolding shown
words_are_counted_before_they_are_read = refl

empty_word_after_a_faulty_number : shown (codes "malloc 01 ") ≡ fault_at 1 BadWord
unfolding shown
empty_word_after_a_faulty_number = refl

leftmost_faulty_word : shown (codes "malloc 1024 01") ≡ fault_at 1 OutOfRange
unfolding shown
leftmost_faulty_word = refl

empty_line : shown (10 ∷ []) ≡ fault_at 1 BadWord
unfolding shown
empty_line = refl

events_before_a_cut_line : shown (codes "malloc 1 16" ++ 10 ∷ codes "store 1 16 1")
    ≡ record { events = Malloc 1 16 ∷ []; fault = Some (2, BadWord) }
unfolding shown
events_before_a_cut_line = refl

events_before_half_a_byte : shown (codes "malloc 1 16" ++ 10 ∷ codes "store 1 16 1 a")
    ≡ record { events = Malloc 1 16 ∷ []; fault = Some (2, BadNumber) }
unfolding shown
events_before_half_a_byte = refl

-- ---- the most events

last_event : event_of_line 1000000 (codes "free 0") ≡ Ok (Free 0)
unfolding words number_of event_of_words event_of_line
last_event = refl

one_event_too_many : event_of_line 1000001 (codes "free 0") ≡ Err TooManyEvents
unfolding event_of_line
one_event_too_many = refl

too_long_before_too_many : event_of_line 1000001 (replicate 81 97) ≡ Err LineTooLong
unfolding event_of_line
too_long_before_too_many = refl

-- ---- pieces

unfoldable fed_first : List ℕ → Reading
unfolding lines words number_of signed_of hex_of event_of_words event_of_line trace_from cut fed
fed_first piece = fed nothing_read piece

part_of_a_line : fed_first (codes "free 1" ++ 10 ∷ codes "mal") ≡ record { events = Free 1 ∷ []; state = Open 1 (codes "mal") }
unfolding fed_first
part_of_a_line = refl

line_of_two_pieces : fed (fed_first (codes "free 1" ++ 10 ∷ codes "mal")) (codes "loc 2 5" ++ 10 ∷ [])
    ≡ record { events = Free 1 ∷ Malloc 2 5 ∷ []; state = Open 2 [] }
unfolding words number_of event_of_words event_of_line trace_from cut fed fed_first
line_of_two_pieces = refl

last_line_without_newline : finished (fed_first (codes "free 1" ++ 10 ∷ codes "free 2"))
    ≡ record { events = Free 1 ∷ Free 2 ∷ []; state = Finished }
unfolding words number_of event_of_words event_of_line finished fed_first
last_line_without_newline = refl

eighty_bytes_wait : fed_first (replicate 80 97) ≡ record { events = []; state = Open 0 (replicate 80 97) }
unfolding fed_first
eighty_bytes_wait = refl

eighty_first_byte_is_a_fault : fed_first (replicate 81 97) ≡ record { events = []; state = Failed (Line 1 LineTooLong) }
unfolding fed_first
eighty_first_byte_is_a_fault = refl

-- What the words of an event spell, read one after the other.
use Rattle.std.proofs.Common.{◌≡◌, ℕ, ℤ, List, [], ◌∷◌, ◌∙◌, false, Result, Ok, arith, length, ne_eqb}
use Rattle.line_text.specs.{Hexadecimal.{hex_of}, Numbers.{number_of}, Signed.{signed_of}}
use Rattle.trace_event.specs.declared.event.{Event.{Event}, Event.TheVariants.{Free, Load, Store}}
use Rattle.trace_reader.specs.{OnePass.{AreRead, IsRead}, declared.fault.TraceFault.{TraceFault}}
use Rattle.trace_reader.specs.TraceLine.{store_of, byte_of, event_named, event_of_words, free_of, is_empty_word, load_of, move_of}
use Rattle.trace_reader.specs.TraceLine.{number_from, offset_of, request_of}

-- ---- a word that spells something is not empty

full_number : (low high : ℕ) (word : List ℕ) (n : ℕ) → number_from low high word ≡ Ok n → is_empty_word word ≡ false
unfolding number_of
full_number low high word n e = grind arith

full_offset : (word : List ℕ) (z : ℤ) → offset_of word ≡ Ok z → is_empty_word word ≡ false
unfolding signed_of
full_offset word z e = grind arith

full_byte : (word : List ℕ) (n : ℕ) → byte_of word ≡ Ok n → is_empty_word word ≡ false
unfolding hex_of
full_byte [] n e = absurd cc
full_byte (b ∷ word) n e = ne_eqb (length (b ∷ word)) 0 (omega arith)

-- ---- the numbers of each kind of event

pub request_read : (ws more left : List (List ℕ)) (v n : ℕ) (event : ℕ → ℕ → Event)
    → IsRead (number_from 0 1023) ws more v → IsRead (number_from 0 2147483647) more left n → left ≡ [] →
    AreRead (request_of event) ws (event v n)
request_read ws more left v n event a b none = grind (arith, full_number)

pub free_read : (ws left : List (List ℕ)) (v : ℕ) → IsRead (number_from 0 1023) ws left v → left ≡ [] → AreRead free_of ws (Free v)
free_read ws left v a none = grind (arith, full_number)

pub load_read : (ws more third left : List (List ℕ)) (v len : ℕ) (off : ℤ)
    → IsRead (number_from 0 1023) ws more v → IsRead offset_of more third off → IsRead (number_from 1 64) third left len → left ≡ []
    → AreRead load_of ws (Load v off len)
load_read ws more third left v len off a o b none = grind (arith, full_number, full_offset)

pub store_read : (ws more third last_one left : List (List ℕ)) (v len byte : ℕ) (off : ℤ)
    → IsRead (number_from 0 1023) ws more v → IsRead offset_of more third off → IsRead (number_from 1 64) third last_one len
    → IsRead byte_of last_one left byte → left ≡ []
    → AreRead store_of ws (Store v off len byte)
store_read ws more third last_one left v len byte off a o b h none = grind (arith, full_number, full_offset, full_byte)

pub move_read : (ws more third last_one left : List (List ℕ)) (v w u6 u4 : ℕ) (event : ℕ → ℕ → ℕ → ℕ → Event)
    → IsRead (number_from 0 1023) ws more v → IsRead (number_from 0 1023) more third w → IsRead (number_from 0 63) third last_one u6
    → IsRead (number_from 0 15) last_one left u4 → left ≡ []
    → AreRead (move_of event) ws (event v w u6 u4)
move_read ws more third last_one left v w u6 u4 event a b c d none = grind (arith, full_number)

-- ---- the name in front of them

pub named_words : {reading : List (List ℕ) → Result Event TraceFault} {ws : List (List ℕ)} {event : Event} (name : List ℕ)
    → is_empty_word name ≡ false → event_named name ws ≡ reading ws → AreRead reading ws event → event_of_words (name ∷ ws) ≡ Ok event
unfolding event_of_words
named_words name full named read = rw (full, read.full) (named ∙ read.is)

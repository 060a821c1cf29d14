-- From an event to its line: the event is read from it.
use Rattle.std.proofs.Common.{◌≡◌, ℕ, suc, ◌+◌, ◌<◌, ◌≤◌, ◌^◌, true, leb, List, [], ◌∷◌, length, Ok, refl, arith, ℤ}
use Rattle.std.proofs.{Common.{nat_abs, length-append, codes, All}, lemmas.Bool.{le-leb, le-ltb}}
use Rattle.std.{proofs.lemmas.Fmt.{length-decimal-le}, proofs.lemmas.List.Elements.{All-nil, All-cons}, specs.Fmt.{decimal, signed_decimal}}
use Rattle.std.specs.List.{list_all}
use Rattle.line_text.proofs.LawLemmas.{spelled_hex_is_a_word, spelled_hex_is_read, spelled_number_is_a_word, spelled_number_is_read}
use Rattle.line_text.proofs.LawLemmas.{spelled_signed_is_a_word, spelled_signed_is_read, words_make_a_line, written_words_are_read}
use Rattle.line_text.specs.{Hexadecimal.{hex}, Lines.{words, line_of, IsLine, IsWord}}
use Rattle.trace_event.specs.{Ranges.{IsInRange}, declared.event.Event.{Event}}
use Rattle.trace_event.specs.declared.event.Event.TheVariants.{Malloc, Calloc, Realloc, Free, Load, Store, Addg, Subg}
use Rattle.trace_reader.{proofs.Offsets.{fits_signed}, specs.OnePass.{AreRead, IsRead}}
use Rattle.trace_reader.proofs.SpelledWords.{named_words, request_read, free_read, load_read, store_read, move_read}
use Rattle.trace_reader.specs.TraceLine.{number_from, offset_of, byte_of, event_line, event_of_words, event_of_line, event_words, move_of}
use Rattle.trace_reader.specs.TraceLine.{move_words, request_of, request_words}

-- ---- words

abbrev IsText : List ℕ → Type 0
IsText word = IsLine word × IsWord word

-- letters are neither newlines nor spaces
letters : (word : List ℕ) → list_all (λ b. leb 97 b) word ≡ true → IsText word
letters [] all = (All-nil _, All-nil _)
letters (b ∷ word) all = grind (arith, letters word)

record AreTexts (ws : List (List ℕ)) : Type 0 where
  lines : All IsLine ws
  words : All IsWord ws

no_word : AreTexts []
no_word = record { lines = All-nil _; words = All-nil _ }

one_word_more : {ws : List (List ℕ)} (word : List ℕ) → IsText word → AreTexts ws → AreTexts (word ∷ ws)
one_word_more {ws} word text others = grind (arith, All-cons)

number_word : {ws : List (List ℕ)} → (n : ℕ) → n < 2 ^ 64 → AreTexts ws → AreTexts (decimal n ∷ ws)
number_word n small others = one_word_more (decimal n) (spelled_number_is_a_word n small) others

request_texts : (name : List ℕ) (v n : ℕ) → IsText name → v ≤ 1023 → n ≤ 2147483647 → AreTexts (request_words name v n)
request_texts name v n text v_in n_in =
    one_word_more name text (number_word v (omega (arith, v_in)) (number_word n (omega (arith, n_in)) no_word))

move_texts : (name : List ℕ) (v w u6 u4 : ℕ) → IsText name → v ≤ 1023 → w ≤ 1023 → u6 ≤ 63 → u4 ≤ 15 → AreTexts (move_words name v w u6 u4)
move_texts name v w u6 u4 text v_in w_in u6_in u4_in =
    one_word_more name text
    (number_word v (omega (arith, v_in)) (number_word w (omega (arith, w_in))
    (number_word u6 (omega (arith, u6_in)) (number_word u4 (omega (arith, u4_in)) no_word))))

event_texts : (event : Event) → IsInRange event → AreTexts (event_words event)
event_texts (Malloc v n) is = request_texts (codes "malloc") v n (letters (codes "malloc") refl) is.0 is.1
event_texts (Calloc v n) is = request_texts (codes "calloc") v n (letters (codes "calloc") refl) is.0 is.1
event_texts (Realloc v n) is = request_texts (codes "realloc") v n (letters (codes "realloc") refl) is.0 is.1
event_texts (Free v) is = one_word_more (codes "free") (letters (codes "free") refl) (number_word v (omega (arith, is)) no_word)
event_texts (Load v off len) is =
    one_word_more (codes "load") (letters (codes "load") refl)
    (number_word v (omega (arith, is.0)) (one_word_more (signed_decimal off) (spelled_signed_is_a_word off (fits_signed off is.1))
    (number_word len (omega (arith, is.3)) no_word)))
event_texts (Store v off len byte) is =
    one_word_more (codes "store") (letters (codes "store") refl)
    (number_word v (omega (arith, is.0.0))
    (one_word_more (signed_decimal off) (spelled_signed_is_a_word off (fits_signed off is.0.1))
    (number_word len (omega (arith, is.0.3)) (one_word_more (hex byte) (spelled_hex_is_a_word byte is.1) no_word))))
event_texts (Addg v w u6 u4) is = move_texts (codes "addg") v w u6 u4 (letters (codes "addg") refl) is.0 is.1 is.2 is.3
event_texts (Subg v w u6 u4) is = move_texts (codes "subg") v w u6 u4 (letters (codes "subg") refl) is.0 is.1 is.2 is.3

-- ---- what the words say

a_number : {others : List (List ℕ)} (low high n : ℕ) → low ≤ n → n ≤ high → high < 2 ^ 64
    → IsRead (number_from low high) (decimal n ∷ others) others n
a_number {others} low high n above below small = grind (arith, spelled_number_is_read, le-leb)

a_variable : {others : List (List ℕ)} (v : ℕ) → v ≤ 1023 → IsRead (number_from 0 1023) (decimal v ∷ others) others v
a_variable {others} v v_in = a_number 0 1023 v (omega arith) v_in (omega arith)

an_offset : {others : List (List ℕ)} (z : ℤ) → nat_abs z ≤ 1048576 → IsRead offset_of (signed_decimal z ∷ others) others z
an_offset {others} z near = grind (arith, spelled_signed_is_read, fits_signed, le-leb)

a_byte : {others : List (List ℕ)} (n : ℕ) → n < 2 ^ 8 → IsRead byte_of (hex n ∷ others) others n
a_byte {others} n small = record { word = hex n; words = refl; is = rw (spelled_hex_is_read n small) refl }

requested : (v n : ℕ) (event : ℕ → ℕ → Event) → v ≤ 1023 → n ≤ 2147483647
    → AreRead (request_of event) (decimal v ∷ decimal n ∷ []) (event v n)
requested v n event v_in n_in =
    request_read _ _ [] v n event (a_variable v v_in) (a_number 0 2147483647 n (omega arith) n_in (omega arith)) refl

moved : (v w u6 u4 : ℕ) (event : ℕ → ℕ → ℕ → ℕ → Event) → v ≤ 1023 → w ≤ 1023 → u6 ≤ 63 → u4 ≤ 15
    → AreRead (move_of event) (decimal v ∷ decimal w ∷ decimal u6 ∷ decimal u4 ∷ []) (event v w u6 u4)
moved v w u6 u4 event v_in w_in u6_in u4_in =
    move_read _ _ _ _ [] v w u6 u4 event (a_variable v v_in) (a_variable w w_in) (a_number 0 63 u6 (omega arith) u6_in (omega arith))
    (a_number 0 15 u4 (omega arith) u4_in (omega arith)) refl

event_read : (event : Event) → IsInRange event → event_of_words (event_words event) ≡ Ok event
event_read (Malloc v n) is = named_words (codes "malloc") refl refl (requested v n Malloc is.0 is.1)
event_read (Calloc v n) is = named_words (codes "calloc") refl refl (requested v n Calloc is.0 is.1)
event_read (Realloc v n) is = named_words (codes "realloc") refl refl (requested v n Realloc is.0 is.1)
event_read (Free v) is = named_words (codes "free") refl refl (free_read _ [] v (a_variable v is) refl)
event_read (Load v off len) is =
    named_words (codes "load") refl refl
    (load_read _ _ _ [] v len off (a_variable v is.0) (an_offset off is.1) (a_number 1 64 len is.2 is.3 (omega arith)) refl)
event_read (Store v off len byte) is =
    named_words (codes "store") refl refl
    (store_read _ _ _ _ [] v len byte off (a_variable v is.0.0) (an_offset off is.0.1) (a_number 1 64 len is.0.2 is.0.3 (omega arith))
    (a_byte byte is.1) refl)
event_read (Addg v w u6 u4) is = named_words (codes "addg") refl refl (moved v w u6 u4 Addg is.0 is.1 is.2 is.3)
event_read (Subg v w u6 u4) is = named_words (codes "subg") refl refl (moved v w u6 u4 Subg is.0 is.1 is.2 is.3)

-- ---- the line

number_len : (n : ℕ) → n ≤ 2147483647 → length (decimal n) ≤ 10
number_len n n_in = length-decimal-le 10 n (omega arith) (omega (arith, n_in)) (omega (arith, n_in))

offset_len : (z : ℤ) → nat_abs z ≤ 1048576 → length (signed_decimal z) ≤ 11
offset_len z near = grind (arith, number_len)

-- one word more
len_more : (k m : ℕ) (word next : List ℕ) (ws : List (List ℕ)) → length word ≤ k → length (line_of (next ∷ ws)) ≤ m →
    length (line_of (word ∷ next ∷ ws)) ≤ k + suc m
len_more k m word next ws of_word of_line = omega (arith, length-append word (32 ∷ line_of (next ∷ ws)), of_word, of_line)

request_len : (name : List ℕ) (v n : ℕ) → length name ≤ 7 → v ≤ 1023 → n ≤ 2147483647 → length (line_of (request_words name v n)) ≤ 80
request_len name v n short v_in n_in =
    omega (
      arith,
      len_more 7 21 name (decimal v) (decimal n ∷ []) short
          (len_more 10 10 (decimal v) (decimal n) [] (number_len v (omega (arith, v_in))) (number_len n n_in)),
    )

move_len : (name : List ℕ) (v w u6 u4 : ℕ) → length name ≤ 7 → v ≤ 1023 → w ≤ 1023 → u6 ≤ 63 → u4 ≤ 15 →
    length (line_of (move_words name v w u6 u4)) ≤ 80
move_len name v w u6 u4 short v_in w_in u6_in u4_in =
    let tags = len_more 10 10 (decimal u6) (decimal u4) [] (number_len u6 (omega (arith, u6_in))) (number_len u4 (omega (arith, u4_in))) in
    let other = len_more 10 21 (decimal w) (decimal u6) (decimal u4 ∷ []) (number_len w (omega (arith, w_in))) tags in
    let numbers = len_more 10 32 (decimal v) (decimal w) (decimal u6 ∷ decimal u4 ∷ []) (number_len v (omega (arith, v_in))) other in
    omega (arith, len_more 7 43 name (decimal v) (decimal w ∷ decimal u6 ∷ decimal u4 ∷ []) short numbers)

event_len : (event : Event) → IsInRange event → length (event_line event) ≤ 80
event_len (Malloc v n) is = request_len (codes "malloc") v n (omega arith) is.0 is.1
event_len (Calloc v n) is = request_len (codes "calloc") v n (omega arith) is.0 is.1
event_len (Realloc v n) is = request_len (codes "realloc") v n (omega arith) is.0 is.1
event_len (Free v) is = omega (arith, len_more 4 10 (codes "free") (decimal v) [] (omega arith) (number_len v (omega (arith, is))))
event_len (Load v off len) is =
    let access = len_more 11 10 (signed_decimal off) (decimal len) [] (offset_len off is.1) (number_len len (omega (arith, is.3))) in
    let numbers = len_more 10 22 (decimal v) (signed_decimal off) (decimal len ∷ []) (number_len v (omega (arith, is.0))) access in
    omega (arith, len_more 4 33 (codes "load") (decimal v) (signed_decimal off ∷ decimal len ∷ []) (omega arith) numbers)
event_len (Store v off len byte) is =
    let bytes = len_more 10 2 (decimal len) (hex byte) [] (number_len len (omega (arith, is.0.3))) (omega arith) in
    let access = len_more 11 13 (signed_decimal off) (decimal len) (hex byte ∷ []) (offset_len off is.0.1) bytes in
    let numbers =
    len_more 10 25 (decimal v) (signed_decimal off) (decimal len ∷ hex byte ∷ []) (number_len v (omega (arith, is.0.0))) access in
    omega (arith, len_more 5 36 (codes "store") (decimal v) (signed_decimal off ∷ decimal len ∷ hex byte ∷ []) (omega arith) numbers)
event_len (Addg v w u6 u4) is = move_len (codes "addg") v w u6 u4 (omega arith) is.0 is.1 is.2 is.3
event_len (Subg v w u6 u4) is = move_len (codes "subg") v w u6 u4 (omega arith) is.0 is.1 is.2 is.3

pub event_line-some : (event : Event) → 0 < length (event_line event)
event_line-some x0 = grind arith

pub event_line-is_line : (event : Event) → IsInRange event → IsLine (event_line event)
event_line-is_line event is = words_make_a_line (event_words event) (event_texts event is).lines

words_of_line : (ws : List (List ℕ)) → 0 < length ws → All IsWord ws → words (line_of ws) ≡ ws
words_of_line [] some all = absurd (omega arith)
words_of_line (w ∷ ws) some all = written_words_are_read w ws all

pub event_of_line-spelled : (number : ℕ) (event : Event) → number ≤ 1000000 → IsInRange event
    → event_of_line number (event_line event) ≡ Ok event
unfolding event_of_line
event_of_line-spelled number event few is = grind (arith, words_of_line, event_texts, event_read, le-ltb, event_len)

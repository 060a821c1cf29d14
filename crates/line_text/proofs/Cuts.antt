-- A text and its lines, a line and its words.
use Rattle.std.proofs.Common.{◌≡◌, ℕ, ◌+◌, ◌<◌, ◌∙◌, List, [], ◌∷◌, ◌++◌, length, get_or, take, drop, refl, ap, arith, add-one}
use Rattle.std.proofs.{Common.{append_assoc, All, inl, Some, None, false, eqb, eqb-true}, Math.Seq.{split_at}, lemmas.Grind.{common_steps}}
use Rattle.std.proofs.lemmas.{Bool.{false_from_ne_true}, List.{get_or-take, length-take-le}, List.Concat.{flat_map-cons}}
use Rattle.std.{proofs.lemmas.List.Elements.{All-head, All-tail, All-cons, All-append, All-nil, All-from_get_or}, specs.List.{onto_first}}
use Rattle.std.proofs.lemmas.List.Splits.{slice_split_none, slice_split_at, join_with_byte-slice_split}
use Rattle.memchr.specs.Find.{IsFirstByte, is_byte}
use Rattle.line_text.specs.Lines.{lines, words, is_newline, is_space, text_of, line_of, IsLine, IsTextOf, IsWord}

-- ---- where a search found a byte, or found none

-- the byte does not stand in the list
abbrev pub Lacks : ℕ → List ℕ → Type 0
Lacks byte bytes = All (λ b. eqb b byte ≡ false) bytes

pub lacks_before : (byte : ℕ) (bytes : List ℕ) (i : ℕ) → IsFirstByte (is_byte byte) bytes (Some i) → Lacks byte (take i bytes)
lacks_before byte bytes i found = All-from_get_or (λ b. eqb b byte ≡ false) (take i bytes) 0 other
  where
    other : (k : ℕ) → k < length (take i bytes) → eqb (get_or (take i bytes) k 0) byte ≡ false
    other k lt = grind (arith, length-take-le, get_or-take, false_from_ne_true)

pub lacks_all : (byte : ℕ) (bytes : List ℕ) → IsFirstByte (is_byte byte) bytes None → Lacks byte bytes
lacks_all byte bytes none =
    All-from_get_or (λ b. eqb b byte ≡ false) bytes 0 (λ k lt. false_from_ne_true _ (none k (omega arith) lt))

pub cut_at : (byte : ℕ) (bytes : List ℕ) (i : ℕ) → IsFirstByte (is_byte byte) bytes (Some i) →
    bytes ≡ take i bytes ++ byte ∷ drop (i + 1) bytes
cut_at byte bytes i found = grind (arith, eqb-true, split_at, add-one)

-- ---- a text and its lines

pub line_in_front_is_read : (line text : List ℕ) → IsLine line → lines (line ++ 10 ∷ text) ≡ line ∷ lines text
unfolding lines
line_in_front_is_read [] text all = refl
line_in_front_is_read (b ∷ line) text all =
    rw (All-head (λ x. is_newline x ≡ false) b line all, line_in_front_is_read line text (All-tail (λ x. is_newline x ≡ false) b line all)) refl

pub line_alone : (line : List ℕ) → 0 < length line → IsLine line → lines line ≡ line ∷ []
unfolding lines
line_alone [] some all = absurd (omega arith)
line_alone (b ∷ []) some all = rw (All-head (λ x. is_newline x ≡ false) b [] all) refl
line_alone (b ∷ c ∷ line) some all =
    rw (All-head (λ x. is_newline x ≡ false) b (c ∷ line) all)
    (ap (onto_first b) (line_alone (c ∷ line) (omega arith) (All-tail (λ x. is_newline x ≡ false) b (c ∷ line) all)))

pub lines_at : (text : List ℕ) (i : ℕ) → IsFirstByte (is_byte 10) text (Some i) → lines text ≡ take i text ∷ lines (drop (i + 1) text)
lines_at text i found = ap lines (cut_at 10 text i found) ∙ line_in_front_is_read (take i text) (drop (i + 1) text) (lacks_before 10 text i found)

pub lines-nil : (text : List ℕ) → length text ≡ 0 → lines text ≡ []
unfolding lines
lines-nil [] e = refl
lines-nil (b ∷ text) e = absurd (omega (arith, e))

-- a text before which lines are written
pub lines-text_of : (ls : List (List ℕ)) (text : List ℕ) → All IsLine ls → lines (text_of ls ++ text) ≡ ls ++ lines text
lines-text_of [] text all = refl
lines-text_of (line ∷ ls) text all =
    rw (flat_map-cons, append_assoc, append_assoc)
    (line_in_front_is_read line (text_of ls ++ text) (All-head IsLine line ls all)
    ∙ ap (λ (t : List (List ℕ)). line ∷ t) (lines-text_of ls text (All-tail IsLine line ls all)))

-- a byte in front of the first part, where the byte is not the one at which the parts were cut
All-onto_first : (cut b : ℕ) (parts : List (List ℕ)) → eqb b cut ≡ false → All (Lacks cut) parts → All (Lacks cut) (onto_first b parts)
All-onto_first cut b [] other all = All-cons (Lacks cut) (b ∷ []) [] (All-cons (λ x. eqb x cut ≡ false) b [] other (All-nil _)) (All-nil _)
All-onto_first cut b (part ∷ parts) other all =
    All-cons (Lacks cut) (b ∷ part) parts (All-cons (λ x. eqb x cut ≡ false) b part other (All-head (Lacks cut) part parts all))
    (All-tail (Lacks cut) part parts all)

pub lines_are_lines : (text : List ℕ) → All IsLine (lines text)
unfolding lines
lines_are_lines [] = All-nil _
lines_are_lines (b ∷ text) = grind (arith, All-onto_first, lines_are_lines text)

-- a text is its lines, the last with its newline or without
IsTextOf-onto_first : (b : ℕ) (text : List ℕ) (ls : List (List ℕ)) → IsTextOf text ls → IsTextOf (b ∷ text) (onto_first b ls)
IsTextOf-onto_first b text ls is = grind (arith, common_steps, flat_map-cons)

IsTextOf-newline : (text : List ℕ) (ls : List (List ℕ)) → IsTextOf text ls → IsTextOf (10 ∷ text) ([] ∷ ls)
IsTextOf-newline text ls is = grind arith

pub text_is_its_lines : (text : List ℕ) → IsTextOf text (lines text)
unfolding lines
text_is_its_lines [] = inl refl
text_is_its_lines (b ∷ text) = grind (arith, eqb-true, IsTextOf-newline, IsTextOf-onto_first, text_is_its_lines text)

-- ---- a line and its words

pub words_at : (line : List ℕ) (i : ℕ) → IsFirstByte (is_byte 32) line (Some i) → words line ≡ take i line ∷ words (drop (i + 1) line)
unfolding words
words_at line i found =
    ap words (cut_at 32 line i found) ∙ slice_split_at is_space (take i line) 32 (drop (i + 1) line) (lacks_before 32 line i found) refl

pub words_last : (line : List ℕ) → IsFirstByte (is_byte 32) line None → words line ≡ line ∷ []
unfolding words
words_last line none = slice_split_none is_space line (lacks_all 32 line none)

pub line_is_its_words : (line : List ℕ) → line_of (words line) ≡ line
unfolding words
line_is_its_words line = join_with_byte-slice_split 32 line

pub written_words_are_read : (w : List ℕ) (ws : List (List ℕ)) → All IsWord (w ∷ ws) → words (line_of (w ∷ ws)) ≡ w ∷ ws
unfolding words
written_words_are_read w [] all = slice_split_none is_space w (All-head IsWord w [] all)
written_words_are_read w (v ∷ ws) all =
    slice_split_at is_space w 32 (line_of (v ∷ ws)) (All-head IsWord w (v ∷ ws) all) refl
    ∙ ap (λ (t : List (List ℕ)). w ∷ t) (written_words_are_read v ws (All-tail IsWord w (v ∷ ws) all))

-- words that hold no newline make a line
pub words_make_a_line : (ws : List (List ℕ)) → All IsLine ws → IsLine (line_of ws)
words_make_a_line [] all = All-nil _
words_make_a_line (w ∷ []) all = All-head IsLine w [] all
words_make_a_line (w ∷ v ∷ ws) all =
    All-append (λ b. is_newline b ≡ false) w (32 ∷ line_of (v ∷ ws)) (All-head IsLine w (v ∷ ws) all)
    (All-cons (λ b. is_newline b ≡ false) 32 (line_of (v ∷ ws)) refl (words_make_a_line (v ∷ ws) (All-tail IsLine w (v ∷ ws) all)))

-- ---- where `next` goes on

-- an item fewer
pub shorter : {A : Type 0} (x : A) (old new : List A) → old ≡ x ∷ new → length new < length old
shorter x old new e = omega (arith, ap length e)

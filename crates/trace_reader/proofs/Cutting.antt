-- Texts that are cut at their newlines.
use Rattle.std.proofs.Common.{◌≡◌, ℕ, Bool, true, false, cond, List, [], ◌∷◌, ◌++◌, refl, sym, ap, ◌∙◌, append_assoc}
use Rattle.std.{proofs.lemmas.List.Elements.{All-head, All-tail}, specs.List.{onto_first}}
use Rattle.line_text.specs.Lines.{lines, is_newline, IsLine}
use Rattle.trace_reader.specs.Reading.{Cut, cut, going_on, bytes_in_front, line_in_front}

abbrev is_other : ℕ → Type 0
is_other b = is_newline b ≡ false

-- ---- a line alone, and a line with its newline in front of a text

pub cut-line : (line : List ℕ) → IsLine line → cut line ≡ record { whole = []; unfinished = line }
unfolding cut
cut-line [] all = refl
cut-line (b ∷ line) all = rw (All-head is_other b line all, cut-line line (All-tail is_other b line all)) refl

pub cut-ended : (line text : List ℕ) → IsLine line → cut (line ++ 10 ∷ text) ≡ line_in_front line (cut text)
unfolding cut
cut-ended [] text all = refl
cut-ended (b ∷ line) text all = rw (All-head is_other b line all, cut-ended line text (All-tail is_other b line all)) refl

-- ---- one text after another

-- The second text goes on with the unfinished line of the first.
abbrev pub joined : Cut → Cut → Cut
joined c d = record { whole = c.whole ++ (going_on c.unfinished d).whole; unfinished = (going_on c.unfinished d).unfinished }

pub going_on-nil : (c : Cut) → going_on [] c ≡ c
going_on-nil c = go c.whole c.unfinished
  where
    go : (ls : List (List ℕ)) (rest : List ℕ) → bytes_in_front [] ls rest ≡ record { whole = ls; unfinished = rest }
    go [] rest = refl
    go (line ∷ ls) rest = refl

going_on-append : (a b : List ℕ) (c : Cut) → going_on a (going_on b c) ≡ going_on (a ++ b) c
going_on-append a b c = go c.whole c.unfinished
  where
    go : (ls : List (List ℕ)) (rest : List ℕ) → going_on a (bytes_in_front b ls rest) ≡ bytes_in_front (a ++ b) ls rest
    go [] rest = rw (append_assoc a b rest) refl
    go (line ∷ ls) rest = rw (append_assoc a b line) refl

pub going_on-joined : (front : List ℕ) (c d : Cut) → going_on front (joined c d) ≡ joined (going_on front c) d
going_on-joined front c d = go c.whole c.unfinished
  where
    go : (ls : List (List ℕ)) (rest : List ℕ) →
        going_on front (joined (record { whole = ls; unfinished = rest }) d) ≡ joined (bytes_in_front front ls rest) d
    go [] rest = going_on-append front rest d
    go (line ∷ ls) rest = refl

pub cut-append : (a b : List ℕ) → cut (a ++ b) ≡ joined (cut a) (cut b)
unfolding cut
cut-append [] b = sym (going_on-nil (cut b))
cut-append (x ∷ a) b = go (is_newline x) (cut-append a b)
  where
    go : (v : Bool) → cut (a ++ b) ≡ joined (cut a) (cut b)
        → cond v (line_in_front [] (cut (a ++ b))) (going_on (x ∷ []) (cut (a ++ b)))
        ≡ joined (cond v (line_in_front [] (cut a)) (going_on (x ∷ []) (cut a))) (cut b)
    go true e = ap (line_in_front []) e
    go false e = ap (going_on (x ∷ [])) e ∙ going_on-joined (x ∷ []) (cut a) (cut b)

-- ---- the lines of a text are its whole lines, and the unfinished one where it isn't empty

abbrev pub last_lines : List ℕ → List (List ℕ)
last_lines [] = []
last_lines (b ∷ rest) = (b ∷ rest) ∷ []

pub lines-cut : (text : List ℕ) → lines text ≡ (cut text).whole ++ last_lines (cut text).unfinished
unfolding cut lines
lines-cut [] = refl
lines-cut (b ∷ text) = go (is_newline b) (lines-cut text) (cut text).whole (cut text).unfinished refl
  where
    onto : (ls : List (List ℕ)) (rest : List ℕ) →
        onto_first b (ls ++ last_lines rest) ≡ (bytes_in_front (b ∷ []) ls rest).whole
        ++ last_lines (bytes_in_front (b ∷ []) ls rest).unfinished
    onto [] [] = refl
    onto [] (x ∷ rest) = refl
    onto (line ∷ ls) rest = refl

    go : (v : Bool) → lines text ≡ (cut text).whole ++ last_lines (cut text).unfinished → (ls : List (List ℕ)) (rest : List ℕ) →
        cut text ≡ record { whole = ls; unfinished = rest }
        → cond v ([] ∷ lines text) (onto_first b (lines text))
        ≡ (cond v (line_in_front [] (cut text)) (going_on (b ∷ []) (cut text))).whole
        ++ last_lines (cond v (line_in_front [] (cut text)) (going_on (b ∷ []) (cut text))).unfinished
    go true e ls rest is = ap (λ (t : List (List ℕ)). [] ∷ t) e
    go false e ls rest is = ap (onto_first b) e ∙ onto (cut text).whole (cut text).unfinished

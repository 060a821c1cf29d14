-- Lines are read from the text that they make; where they are not empty, also without its last newline.
use Rattle.std.proofs.Common.{◌≡◌, ℕ, List, [], ◌∷◌, ◌++◌, length, ◌<◌, Some, refl, ap, ◌∙◌, arith, append_assoc, append-nil, length-append}
use Rattle.std.proofs.{Common.{All}, lemmas.Grind.{flat_map-append}, lemmas.List.{append_cancel_right}, lemmas.List.Concat.{flat_map-cons}}
use Rattle.std.proofs.lemmas.List.Elements.{All-pop, All-weaker}
use Rattle.line_text.{proofs.Cuts.{line_alone, lines-text_of}, specs.Lines.{lines, text_of, ended, IsFullLine, IsLine, IsTextOf}}

-- lines that are written as a text are its lines,
pub written_lines_are_read : (ls : List (List ℕ)) → All IsLine ls → lines (text_of ls) ≡ ls
unfolding lines
written_lines_are_read ls all = simp append-nil at (lines-text_of ls [] all)

-- and so they are where the last one, which is not empty, lacks its newline
pub cut_lines_are_read : (ls : List (List ℕ)) (last : List ℕ) → All IsLine ls → IsLine last → 0 < length last
    → lines (text_of ls ++ last) ≡ ls ++ last ∷ []
cut_lines_are_read ls last all line some = rw (line_alone last some line) at (lines-text_of ls last all)

-- lines, with the last one apart
record LastApart (ls : List (List ℕ)) : Type 0 where
  front : List (List ℕ)
  last : List ℕ
  is : ls ≡ front ++ last ∷ []

last_apart : (line : List ℕ) (ls : List (List ℕ)) → LastApart (line ∷ ls)
last_apart line [] = record { front = []; last = line; is = refl }
last_apart line (next ∷ ls) =
    let rest = last_apart next ls in
    record { front = line ∷ rest.front; last = rest.last; is = ap (λ ls. line ∷ ls) rest.is }

-- full lines are lines
all_lines : (ls : List (List ℕ)) → All IsFullLine ls → All IsLine ls
all_lines ls full = All-weaker IsFullLine IsLine (λ line is. is.0) ls full

-- a text is what stands in front of its last newline, and that newline
text_of-last : (front : List (List ℕ)) (last : List ℕ) → text_of (front ++ last ∷ []) ≡ ended (text_of front ++ last)
text_of-last front last = grind (arith, flat_map-append, flat_map-cons, append-nil, append_assoc)

lines-short : (ls : List (List ℕ)) (text : List ℕ) → All IsFullLine ls → ended text ≡ text_of ls → lines text ≡ ls
lines-short [] text full e = absurd (omega (arith, length-append text (10 ∷ []), ap length e))
lines-short (line ∷ ls) text full e =
    let apart = last_apart line ls in
    let both = All-pop IsFullLine (line ∷ ls) apart.front (Some apart.last) apart.is full in
    let whole : ended text ≡ ended (text_of apart.front ++ apart.last) = e ∙ ap text_of apart.is ∙ text_of-last apart.front apart.last in
    grind (arith, append_cancel_right, cut_lines_are_read, all_lines)

pub full_lines_are_read : (ls : List (List ℕ)) (text : List ℕ) → All IsFullLine ls → IsTextOf text ls → lines text ≡ ls
full_lines_are_read ls text is also = grind (arith, written_lines_are_read, all_lines, lines-short)

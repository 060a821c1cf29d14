-- Where the first lines of a text end.
use Rattle.std.proofs.Common.{◌≡◌, ◌<◌, ◌+◌, ◌==◌, ◌∙◌, ℕ, suc, zero, Bool, true, false, List, [], ◌∷◌, ◌++◌, ap, arith, drop}
use Rattle.std.proofs.Common.{length, nat_lt, refl, sym, take}
use Rattle.std.proofs.{Math.Seq.{drop-append-add, drop-length, take-append-add, take-length}, Math.ListN.{drop_of_length-le}}
use Rattle.std.proofs.lemmas.{Bool.{le-ltb, lt-ltb}, List.{length-append, take_all}}
use Rattle.line_text.specs.Lines.{IsLine, lines}
use Rattle.line_text.proofs.LawLemmas.{cut_lines_are_read, line_in_front_is_read}
use Rattle.mte_engine.specs.Border.{IsCutAt}

-- no line
pub cut_at_once : (text : List ℕ) → IsCutAt text 0 0 false
unfolding lines
cut_at_once text = record {
  within = omega arith;
  first = refl;
  rest = refl;
  fewer = sym (le-ltb (length (lines text)) 0 (omega arith));
}

more_lines : (n border : ℕ) → nat_lt (suc n) (suc border) ≡ nat_lt n border
more_lines n border = grind (arith, lt-ltb, le-ltb)

-- a line, and others after it
pub cut_one_more : (line rest : List ℕ) (border end : ℕ) (lacks : Bool) → IsLine line → IsCutAt rest border end lacks
    → IsCutAt (line ++ 10 ∷ rest) (suc border) (length line + suc end) lacks
cut_one_more line rest border end lacks is_line cut =
    let first : take (length line + suc end) (line ++ 10 ∷ rest) ≡ line ++ 10 ∷ take end rest = take-append-add line (10 ∷ rest) (suc end) in
    let others : drop (length line + suc end) (line ++ 10 ∷ rest) ≡ drop end rest = drop-append-add line (10 ∷ rest) (suc end) in
    record {
      within = omega (arith, length-append line (10 ∷ rest), cut.within);
      first = rw (first, line_in_front_is_read line (take end rest) is_line, line_in_front_is_read line rest is_line, cut.first) refl;
      rest = rw (others, line_in_front_is_read line rest is_line, cut.rest) refl;
      fewer = rw (line_in_front_is_read line rest is_line) (cut.fewer ∙ sym (more_lines (length (lines rest)) border));
    }

pub cut_more : (text line rest : List ℕ) (border below end n : ℕ) (lacks : Bool) → text ≡ line ++ 10 ∷ rest → IsLine line
    → border ≡ suc below → n ≡ length line + suc end → IsCutAt rest below end lacks → IsCutAt text border n lacks
cut_more text line rest border below end n lacks parts is_line next is cut =
    rw (parts, is, next) (cut_one_more line rest below end lacks is_line cut)

-- an empty text
pub cut_empty : (text : List ℕ) (border : ℕ) → length text ≡ 0 → 0 < border → IsCutAt text border (length text) true
unfolding lines
cut_empty [] (suc border) none some = record {
  within = omega arith;
  first = refl;
  rest = refl;
  fewer = sym (lt-ltb 0 (suc border) (omega arith));
}
cut_empty text zero none some = absurd (omega (arith, some))
cut_empty (b ∷ text) (suc border) none some = absurd (omega (arith, none))

-- a last line without its newline
pub cut_last : (text : List ℕ) (border : ℕ) → 0 < length text → 0 < border → IsLine text
    → IsCutAt text border (length text) (nat_lt 1 border)
unfolding lines
cut_last text zero long some is_line = absurd (omega (arith, some))
cut_last text (suc border) long some is_line =
    let one : lines text ≡ text ∷ [] = cut_lines_are_read [] text (λ k d lt. absurd (omega (arith, lt))) is_line long in
    record {
      within = omega arith;
      first = ap lines (take-length text) ∙ sym (ap (take (suc border)) one ∙ take_all (suc border) (text ∷ []) (omega arith) ∙ sym one);
      rest = ap lines (drop-length text) ∙ sym (ap (drop (suc border)) one ∙ drop_of_length-le (text ∷ []) {i = suc border} (omega arith));
      fewer = sym (ap (λ (ls : List (List ℕ)). nat_lt (length ls) (suc border)) one);
    }

pub long_text : (text : List ℕ) → (length text == 0) ≡ false → 0 < length text
long_text [] some = absurd cc
long_text (b ∷ text) some = omega arith

-- Texts that are written part by part.
use Rattle.std.proofs.Common.{◌≡◌, ℕ, ◌+◌, ◌≤◌, List, [], ◌∷◌, ◌++◌, ◌∙◌, length, take, ap, sym, codes, append_assoc, arith}
use Rattle.std.proofs.{Math.Seq.{take-append-add}, lemmas.List.{take-take}}
use Rattle.line_text.specs.Lines.{ended, line_of}

pub tag_fault_line : (number granule memory pointer kind : List ℕ) (x0 x1 x2 x3 x4 x5 x6 x7 x8 x9 x10 : List ℕ) →
    x1 ≡ x0 ++ number → x2 ≡ x1 ++ codes " fault tag granule " →
    x3 ≡ x2 ++ granule → x4 ≡ x3 ++ codes " memory " → x5 ≡ x4 ++ memory → x6 ≡ x5 ++ codes " pointer " → x7 ≡ x6 ++ pointer →
    x8 ≡ x7 ++ codes " in " → x9 ≡ x8 ++ kind → x10 ≡ x9 ++ 10 ∷ [] →
    x10 ≡ x0 ++ ended (line_of (number ∷ codes "fault" ∷ codes "tag" ∷ codes "granule" ∷ granule ∷ codes "memory" ∷ memory ∷ codes
    "pointer" ∷ pointer ∷ codes "in" ∷ kind ∷ []))
tag_fault_line number granule memory pointer kind x0 x1 x2 x3 x4 x5 x6 x7 x8 x9 x10 e1 e2 e3 e4 e5 e6 e7 e8 e9 e10 =
    rw (e10, e9, e8, e7, e6, e5, e4, e3, e2, e1) (simp append_assoc)

-- a text that is right to the end of what was written is right to each place in it
pub written_to : (text front bytes : List ℕ) (at len most : ℕ) → length front ≡ at → len ≤ most →
    take (at + most) text ≡ front ++ bytes → take (at + len) text ≡ front ++ take len bytes
written_to text front bytes at len most long fewer is =
    sym (take-take (at + len) (at + most) text (omega arith)) ∙ ap (take (at + len)) is ∙ rw (← long) (take-append-add front bytes len)

-- Which lines of a text are its sheet depends only on these lines and the one after them.
use Rattle.std.proofs.Common.{◌≡◌, ℕ, zero, suc, ◌+◌, ◌<◌, ◌≤◌, Bool, true, false, All, List, [], ◌∷◌, ◌++◌, length, take, codes}
use Rattle.std.{proofs.Common.{Option, Some, None, Ok, refl, sym, subst, arith}, proofs.lemmas.List.Elements.{All-take}}
use Rattle.line_text.specs.{Lines.{IsLine}, LineSteps.{read_lines}}
use Rattle.potential_check.specs.{Leading.{leading_lines, lines_from}, declared.{cost.Cost.{Cost}, part.Part.{Part}}}
use Rattle.potential_check.specs.SheetText.{SheetReading, is_left, is_named, nothing_read, part_after, part_of, read_by, sheet_steps, whole, with_part}
use Rattle.potential_check.specs.declared.part.Part.TheVariants.{Table, Row}
use Rattle.tuner_theory.specs.Sheets.{Sheet}

-- ---- the lines from a part on

from_settled : (n : ℕ) (next : Part) (ls other : List (List ℕ)) → length (lines_from next ls) < n → n ≤ length ls
    → take n ls ≡ take n other → lines_from next other ≡ lines_from next ls
unfolding lines_from
from_settled zero next ls other few there e = absurd (omega (arith, few))
from_settled (suc n) next [] other few there e = absurd (omega (arith, there))
from_settled (suc n) next (line ∷ ls) [] few there e = absurd cc
from_settled (suc n) next (line ∷ ls) (first ∷ other) few there e = grind (arith, from_settled n (part_after (part_of next line)) ls other)

from_cut : (n : ℕ) (next : Part) (ls : List (List ℕ)) → length (lines_from next ls) ≤ n → lines_from next (take n ls) ≡ lines_from next ls
unfolding lines_from
from_cut zero next [] few = refl
from_cut (suc n) next [] few = refl
from_cut zero next (line ∷ ls) few = grind arith
from_cut (suc n) next (line ∷ ls) few = grind (arith, from_cut n (part_after (part_of next line)) ls)

-- they are first
from_first : (next : Part) (ls : List (List ℕ)) → (lines_from next ls ≡ take (length (lines_from next ls)) ls) × (length (lines_from next ls) ≤ length ls)
unfolding lines_from
from_first next [] = (refl, omega arith)
from_first next (line ∷ ls) = grind (arith, from_first (part_after (part_of next line)) ls)

-- only a row comes next where a line is left, and where a sheet is whole
left_at_rows : (next : Part) (line : List ℕ) → is_left next line ≡ true → next ≡ Row
left_at_rows next line left = grind arith

whole_at_rows : (next : Part) (s t : Sheet) → whole next s ≡ Some t → next ≡ Row
whole_at_rows next s t is = grind arith

-- where a line that is no row stands after lines that are read
from_one_more : (ls : List (List ℕ)) (n : ℕ) (r : SheetReading) (s : Sheet) (line : List ℕ) → is_left Row line ≡ true
    → read_lines sheet_steps n r (lines_from r.next ls) ≡ Ok s → lines_from r.next (lines_from r.next ls ++ line ∷ []) ≡ lines_from r.next ls
unfolding lines_from read_lines
from_one_more [] n r s line left e = grind (arith, whole_at_rows)
from_one_more (first ∷ ls) n r s line left e =
    go (λ n r. from_one_more ls n r s line left) (is_left r.next first) refl (with_part r.cost (part_of r.next first) r.sheet first) refl
  where
    go : ((n : ℕ) (r : SheetReading) → read_lines sheet_steps n r (lines_from r.next ls) ≡ Ok s
        → lines_from r.next (lines_from r.next ls ++ line ∷ []) ≡ lines_from r.next ls)
        → (leaves : Bool) → is_left r.next first ≡ leaves → (read : Option Sheet) → with_part r.cost (part_of r.next first) r.sheet first ≡ read
        → lines_from r.next (lines_from r.next (first ∷ ls) ++ line ∷ []) ≡ lines_from r.next (first ∷ ls)
    go later true leaves read is = grind (arith, left_at_rows)
    go later false leaves None is = grind arith
    go later false leaves (Some sheet) is = grind (arith, later)

-- ---- the lines of a sheet

-- The lines of a sheet, where one is after them, are those of each text that begins with them and that one,
pub leading_lines-settled : (n : ℕ) (ls other : List (List ℕ)) → length (leading_lines ls) < n → n ≤ length ls → take n ls ≡ take n other
    → leading_lines other ≡ leading_lines ls
unfolding leading_lines
leading_lines-settled n ls other few there e = from_settled n Table ls other few there e

-- and of the lines that are left where only lines after them are cut off.
pub leading_lines-cut : (n : ℕ) (ls : List (List ℕ)) → length (leading_lines ls) ≤ n → leading_lines (take n ls) ≡ leading_lines ls
unfolding leading_lines
leading_lines-cut n ls few = from_cut n Table ls few

-- where another line than a row's stands after those of a sheet that is read,
pub leading_lines-one_more : (cost : Cost) (ls : List (List ℕ)) (s : Sheet) (line : List ℕ)
    → is_named (codes "row") line ≡ false → read_by cost (leading_lines ls) ≡ Ok s
    → (length (leading_lines ls) ≤ length ls)
    × (leading_lines (take (length (leading_lines ls)) ls ++ line ∷ []) ≡ leading_lines ls)
unfolding leading_lines read_by
leading_lines-one_more cost ls s line other e =
    let left : is_left Row line ≡ true = rw other refl in grind (arith, from_first Table ls, from_one_more ls 1 (nothing_read cost))

-- They are lines.
pub leading_lines-lines : (ls : List (List ℕ)) → All IsLine ls → All IsLine (leading_lines ls)
unfolding leading_lines
leading_lines-lines ls all =
    subst (All IsLine) (sym (from_first Table ls).0) (All-take IsLine (length (lines_from Table ls)) ls all)

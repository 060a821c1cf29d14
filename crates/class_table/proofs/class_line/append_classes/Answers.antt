use Rattle.std.proofs.Common.{◌≡◌, [], ◌∷◌, ◌++◌, length, get_or, arith, append_assoc, length-append, ℕ, ◌+◌, ◌<◌, ◌≤◌, List}
use Rattle.std.{proofs.Common.{take, refl}, proofs.lemmas.Fmt.{length-decimal-le}, proofs.lemmas.Grind.{common_steps}, specs.Fmt.{decimal}}
use Rattle.std.proofs.lemmas.List.{map-append, take_more}
use Rattle.line_text.specs.Lines.{line_of}
use Rattle.class_table.specs.ClassLine.{class_line}
use Rattle.class_table.proofs.class_line.append_classes.Goals as goal

-- Writing a class line, class by class.

-- one word more
line_of-push : (w : List ℕ) (ws : List (List ℕ)) (v : List ℕ) → line_of (w ∷ ws ++ v ∷ []) ≡ line_of (w ∷ ws) ++ 32 ∷ v
line_of-push w [] v = refl
line_of-push w (u ∷ ws) v = grind (arith, line_of-push u ws v, append_assoc)

class_line-more : (classes : List ℕ) (i : ℕ) → i < length classes →
    class_line (take (i + 1) classes) ≡ class_line (take i classes) ++ 32 ∷ decimal (get_or classes i 0)
class_line-more classes i within = grind (arith, common_steps, take_more, map-append, line_of-push)

-- a class has at most four digits
short : (class : ℕ) → class ≤ 1024 → length (decimal class) ≤ 4
short class small = length-decimal-le 4 class (omega arith) (omega arith) (omega arith)

pub loop-class-preserved : goal.loop-class-preserved
loop-class-preserved c = grind (arith, append_assoc, class_line-more, length-append, short)

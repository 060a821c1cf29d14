-- The line of a table is read as that table, and what is read as a table is its line.
use Rattle.std.proofs.Common.{◌≡◌, ℕ, Bool, true, false, List, [], ◌∷◌, length, Option, Some, None, Ok, refl, sym, subst, ◌∙◌, arith, codes}
use Rattle.std.proofs.{Common.{ltb, inr, append-nil}, lemmas.Bool.{le-ltb, ltb-false}, lemmas.List.Concat.{flat_map-cons}}
use Rattle.std.proofs.lemmas.List.Elements.{All-nil, All-cons}
use Rattle.line_text.{proofs.LawLemmas.{text_laws as laws}, specs.Lines.{lines, words, ended, IsFullLine, IsLine, IsTextOf}}
use Rattle.class_table.proofs.Legal.{classes-from_no_fault, legal_table_of_classes, classes_of_legal_table, no_fault-from_classes}
use Rattle.class_table.proofs.NamedLines.{AreSmall, IsName, line_of_read_numbers, named_line_is_full, named_numbers_are_read, plain_name}
use Rattle.class_table.specs.ClassLine.{SpellsTable, class_line, table_of_lines, table_of_line, table_of}
use Rattle.class_table.specs.{Faults.{fault_from, table_of_classes}, Tables.{IsLegalTable}}
use Rattle.class_table.specs.declared.fault.TableError.{TableError}

-- ---- classes

pub faultless_is_legal : (classes table : List ℕ) → table_of_classes classes ≡ Ok table → (classes ≡ table) × IsLegalTable 1 table
faultless_is_legal classes table e = go (ltb 32 (length classes)) refl (fault_from 0 classes) refl
  where
    go : (many : Bool) → ltb 32 (length classes) ≡ many → (fault : Option TableError) → fault_from 0 classes ≡ fault →
        (classes ≡ table) × IsLegalTable 1 table
    go true h fault k = let f = rw h at e in absurd cc
    go false h (Some fault) k = let f = rw (h, k) at e in absurd cc
    go false h None k =
        let same : classes ≡ table = (let f = rw (h, k) at e in cc) in
        let few = ltb-false 32 (length classes) h in
        (same, rw (← same) (legal_table_of_classes 1 1 classes (omega arith) few (classes-from_no_fault classes k)))

pub legal_is_faultless : (classes : List ℕ) → IsLegalTable 1 classes → table_of_classes classes ≡ Ok classes
legal_is_faultless classes legal = grind (arith, le-ltb, no_fault-from_classes, classes_of_legal_table)

-- ---- what is spelled is read

pub classes_is_a_name : IsName (codes "classes")
classes_is_a_name = plain_name (codes "classes") refl (omega arith)

pub classes_are_small : (table : List ℕ) → IsLegalTable 1 table → AreSmall table
classes_are_small table legal = grind arith

pub class_line_is_full : (table : List ℕ) → IsLegalTable 1 table → IsFullLine (class_line table)
class_line_is_full table legal = named_line_is_full (codes "classes") table classes_is_a_name (classes_are_small table legal)

-- a line is the text of itself, without a newline at the end
pub line_is_its_text : (line : List ℕ) → IsTextOf line (line ∷ [])
line_is_its_text line = inr (sym (flat_map-cons ended line [] ∙ append-nil (ended line)))

one_line : (text line : List ℕ) → IsFullLine line → IsTextOf text (line ∷ []) → lines text ≡ line ∷ []
one_line text line full spelled = laws.full_lines (line ∷ []) text (All-cons IsFullLine line [] full (All-nil IsFullLine)) spelled

-- A text that spells a table has one line, which is the table's.
pub lines-spelled : (text table : List ℕ) → SpellsTable text table → lines text ≡ class_line table ∷ []
lines-spelled text table spells = one_line text (class_line table) (class_line_is_full table spells.legal) spells.line

-- The line of a table is read as that table,
pub table_line_is_read : (table : List ℕ) → IsLegalTable 1 table → table_of_line (class_line table) ≡ Ok table
unfolding table_of_line
table_line_is_read table legal = grind (arith, named_numbers_are_read, classes_is_a_name, classes_are_small, legal_is_faultless)

-- and so is a text of that line.
pub spelled_table_is_read : (text table : List ℕ) → SpellsTable text table → table_of text ≡ Ok table
unfolding table_of
spelled_table_is_read text table spells = rw (lines-spelled text table spells) (table_line_is_read table spells.legal)

-- ---- what is read is spelled so

-- What is read as a table is its line,
pub read_line_is_spelled : (line table : List ℕ) → table_of_line line ≡ Ok table → (line ≡ class_line table) × IsLegalTable 1 table
unfolding table_of_line
read_line_is_spelled line table e = grind (arith, faultless_is_legal, line_of_read_numbers)

of_lines : (text : List ℕ) (ls : List (List ℕ)) (table : List ℕ) → IsTextOf text ls →
    table_of_lines ls ≡ Ok table → SpellsTable text table
of_lines text [] table same e = absurd cc
of_lines text (line ∷ other ∷ ls) table same e = absurd cc
of_lines text (line ∷ []) table same e =
    let read = read_line_is_spelled line table e in
    record { legal = read.1; line = subst (λ line. IsTextOf text (line ∷ [])) read.0 same }

-- and a text that is read as one spells it.
pub table_is_spelled : (text table : List ℕ) → table_of text ≡ Ok table → SpellsTable text table
unfolding table_of
table_is_spelled text table e = of_lines text (lines text) table (laws.text text) e

-- a line alone is a text of that line, or of none where it is empty: no table either
pub line_alone_is_read : (line : List ℕ) → IsLine line → table_of line ≡ table_of_line line
unfolding table_of table_of_line lines words
line_alone_is_read [] is_line = refl
line_alone_is_read (b ∷ line) is_line = rw (one_line (b ∷ line) (b ∷ line) (is_line, omega arith) (line_is_its_text (b ∷ line))) refl

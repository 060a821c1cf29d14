-- The line at which a text is refused as a class line is its first fault.
use Rattle.std.proofs.Common.{◌≡◌, ℕ, List, [], ◌∷◌, take, Result, Ok, Err, refl, ap, arith, ◌⊎◌, inl, inr, IsErr, ◌↔◌}
use Rattle.line_text.specs.{FirstFault.{IsFirstFault}, Lines.{lines}}
use Rattle.class_table.{proofs.Legal.{no_classes_are_legal}, specs.Tables.{IsLegalTable}, specs.declared.fault.TableError.{TableError}}
use Rattle.class_table.proofs.Spelled.{line_is_its_text, lines-spelled, read_line_is_spelled, table_is_spelled, table_line_is_read}
use Rattle.class_table.specs.ClassLine.{BeginsWithTable, SpellsTable, class_line, table_of_lines, table_of_line, table_of}
use Rattle.class_table.specs.declared.fault.TableError.TheVariants.{BadLine}

-- ---- texts that spell a table, and texts that begin with one

-- the line of a table alone spells it
spells-class_line : (table : List ℕ) → IsLegalTable 1 table → SpellsTable (class_line table) table
spells-class_line table legal = record { legal = legal; line = line_is_its_text (class_line table) }

-- what spells a table begins with it
begins-spelled : (text table : List ℕ) → SpellsTable text table → BeginsWithTable text table
begins-spelled text table spells = grind (arith, lines-spelled)

-- ---- line 1

-- where nothing that begins with a table begins as the text does, its first fault is line 1
first_line_fault : (text : List ℕ)
    → ((other table : List ℕ) → BeginsWithTable other table → take 1 (lines other) ≡ take 1 (lines text) → ⊥)
    → IsFirstFault BeginsWithTable text 1
first_line_fault text none = record {
  some = omega arith;
  within = omega arith;
  before = (class_line [], [], begins-spelled (class_line []) [] (spells-class_line [] no_classes_are_legal), refl);
  none = none;
}

-- A missing line is a fault.
pub missing_line_is_first_fault : (text : List ℕ) → lines text ≡ [] → IsFirstFault BeginsWithTable text 1
missing_line_is_first_fault text missing = first_line_fault text none
  where
    none : (other table : List ℕ) → BeginsWithTable other table → take 1 (lines other) ≡ take 1 (lines text) → ⊥
    none other table begins alike =
        grind arith

-- A line is one exactly if it is refused.
pub first_fault_is_refused : (text line : List ℕ) → take 1 (lines text) ≡ line ∷ []
    → IsErr (table_of_line line) ↔ IsFirstFault BeginsWithTable text 1
first_fault_is_refused text line first = (refused_is, is_refused (table_of_line line) refl)
  where
    refused_is : IsErr (table_of_line line) → IsFirstFault BeginsWithTable text 1
    refused_is refused = first_line_fault text (grind (arith, table_line_is_read))

    is_refused : (read : Result (List ℕ) TableError) → table_of_line line ≡ read → IsFirstFault BeginsWithTable text 1
        → IsErr (table_of_line line)
    is_refused (Err fault) is is_first = rw is refl
    is_refused (Ok table) is is_first =
        let spelled = read_line_is_spelled line table is in
        grind arith

-- ---- a text of one line

-- a fault of what begins with a table is one of what spells one
alone : (text : List ℕ) → IsFirstFault BeginsWithTable text 1 → IsFirstFault SpellsTable text 1
alone text first = grind (arith, spells-class_line, no_classes_are_legal, begins-spelled)

-- no line follows the class line
second_line_fault : (text line second table : List ℕ) (ls : List (List ℕ)) → lines text ≡ line ∷ second ∷ ls
    → table_of_line line ≡ Ok table → IsFirstFault SpellsTable text 2
second_line_fault text line second table ls is read =
    let spelled = read_line_is_spelled line table read in
    grind (arith, spells-class_line, lines-spelled)

abbrev IsFaulty : List ℕ → TableError → Type 0
IsFaulty text fault = IsFirstFault SpellsTable text 1 ⊎ ((fault ≡ BadLine) × IsFirstFault SpellsTable text 2)

-- A text that is refused has its first fault at line 1 or at line 2.
pub refused_text_has_first_fault : (text : List ℕ) (fault : TableError) → table_of text ≡ Err fault → IsFaulty text fault
unfolding table_of
refused_text_has_first_fault text fault refused = go (lines text) refl refused
  where
    bad_line : (line second : List ℕ) (ls : List (List ℕ)) → table_of_lines (line ∷ second ∷ ls) ≡ Err fault → fault ≡ BadLine
    bad_line line second ls e = cc

    two_lines : (line second : List ℕ) (ls : List (List ℕ)) → lines text ≡ line ∷ second ∷ ls → fault ≡ BadLine
        → (read : Result (List ℕ) TableError) → table_of_line line ≡ read → IsFaulty text fault
    two_lines line second ls is bad (Ok table) read = inr (bad, second_line_fault text line second table ls is read)
    two_lines line second ls is bad (Err other) read =
        inl (alone text ((first_fault_is_refused text line (ap (take 1) is)).0 (rw read refl)))

    go : (ls : List (List ℕ)) → lines text ≡ ls → table_of_lines ls ≡ Err fault → IsFaulty text fault
    go [] is e = inl (alone text (missing_line_is_first_fault text is))
    go (line ∷ []) is e = inl (alone text ((first_fault_is_refused text line (ap (take 1) is)).0 (rw e refl)))
    go (line ∷ second ∷ ls) is e = two_lines line second ls is (bad_line line second ls e) (table_of_line line) refl

-- A text with a first fault is refused.
pub faulty_text_is_refused : (text : List ℕ) (n : ℕ) → IsFirstFault SpellsTable text n → IsErr (table_of text)
faulty_text_is_refused text n first = go (table_of text) refl
  where
    go : (read : Result (List ℕ) TableError) → table_of text ≡ read → IsErr read
    go (Err fault) is = refl
    go (Ok table) is = absurd (first.none text table (table_is_spelled text table is) refl)

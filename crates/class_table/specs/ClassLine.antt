-- The spelling of a table as a line, and how a line is read, with its first fault.
use Rattle.std.specs.Prelude.{◌≡◌, ℕ, List, [], ◌∷◌, take, codes, Option, Some, None, Result, Err}
use Rattle.line_text.specs.Lines.{IsTextOf, lines}
use Rattle.class_table.specs.{Faults.{table_of_classes}, NamedLines.{named_line, numbers_in}, Tables.{IsLegalTable}}
use Rattle.class_table.specs.declared.fault.{TableError.{TableError}, TableError.TheVariants.{BadLine}}

-- The line of a table, without its newline.
abbrev pub class_line : List ℕ → List ℕ
class_line classes = named_line (codes "classes") classes

-- The text is the line of this table, with its newline or without.
pub record SpellsTable (text classes : List ℕ) : Type 0 where
  pub legal : IsLegalTable 1 classes
  pub line : IsTextOf text (class_line classes ∷ [])

-- The first line of the text is that of this table, whatever follows it.
pub record BeginsWithTable (text classes : List ℕ) : Type 0 where
  pub legal : IsLegalTable 1 classes
  pub line : take 1 (lines text) ≡ class_line classes ∷ []

-- The table of the numbers of a line, or its first fault.
abbrev pub table_of_numbers : Option (List ℕ) → Result (List ℕ) TableError
table_of_numbers None = Err BadLine
table_of_numbers (Some numbers) = table_of_classes numbers

-- The table that a line spells, or its first fault.
unfoldable pub table_of_line : List ℕ → Result (List ℕ) TableError
table_of_line line = table_of_numbers (numbers_in (codes "classes") line)

abbrev pub table_of_lines : List (List ℕ) → Result (List ℕ) TableError
table_of_lines (line ∷ []) = table_of_line line
table_of_lines other = Err BadLine

-- The table that a text of just one line spells, or its first fault.
unfoldable pub table_of : List ℕ → Result (List ℕ) TableError
table_of text = table_of_lines (lines text)

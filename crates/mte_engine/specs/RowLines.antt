-- The lines of the rows of a sheet or a fit.
use Rattle.std.specs.Prelude.{ℕ, ◌≤◌, List, All, codes, length, map}
use Rattle.class_table.specs.{NamedLines.{named_line}, declared.sizes.TheConstants.{MOST_NEEDS}}
use Rattle.line_text.specs.Lines.{text_of}

-- No row has more numbers than there may be needs.
abbrev pub AreShort : List (List ℕ) → Type 0
AreShort rows = All (λ row. length row ≤ MOST_NEEDS) rows

abbrev pub row_lines : List (List ℕ) → List ℕ
row_lines rows = text_of (map (named_line (codes "row")) rows)

-- The lines of the rows of a sheet or a fit, one after the other.
use Rattle.std.proofs.Common.{◌≡◌, ℕ, ◌+◌, ◌≤◌, Bool, List, [], ◌++◌, codes, drop, Some, append_assoc, arith, slice_get}
use Rattle.std.proofs.lemmas.{Grind.{common_steps}}
use Rattle.class_table.specs.{NamedLines.{named_line}, declared.sizes.TheConstants.{MOST_NEEDS}}
use Rattle.line_text.specs.Lines.{ended}
use Rattle.potential_check.specs.{SheetText.{text_by}, declared.cost.Cost.{Cost}}
use Rattle.tuner_theory.specs.Rows.{HasShape}
use Rattle.mte_engine.{proofs.InFront.{in_front}, specs.RowLines.{AreShort, row_lines}}

-- the line of one row more was written
pub line_written : (before after : List ℕ) (rows : List (List ℕ)) (i : ℕ) (row : List ℕ) → slice_get rows i ≡ Some row
    → after ≡ before ++ ended (named_line (codes "row") row)
    → after ++ row_lines (drop (i + 1) rows) ≡ before ++ row_lines (drop i rows)
line_written before after rows i row is written = grind (arith, in_front, append_assoc)

-- rows of a certificate have a number for each distinct need
pub short_rows : (rows : List (List ℕ)) (limit d : ℕ) → HasShape rows limit d → d ≤ MOST_NEEDS → AreShort rows
short_rows rows limit d shape few = omega arith

-- the lines of the rows come after the others
pub rows_after : (cost : Cost) (table : List ℕ) (limit step : ℕ) (forced : Bool) (stated : ℕ) (rows : List (List ℕ))
    → text_by cost (record { table = table; limit = limit; step = step; forced = forced; cost = stated; rows = [] }) ++ row_lines rows
    ≡ text_by cost (record { table = table; limit = limit; step = step; forced = forced; cost = stated; rows = rows })
rows_after cost table limit step forced stated rows = grind (arith, common_steps)

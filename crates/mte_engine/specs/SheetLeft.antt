-- What is still to be written of a sheet or a fit: what is in the buffer, and the lines of the rows that are not.
use Rattle.std.specs.Prelude.{ℕ, List, ◌++◌, drop}
use Rattle.mte_engine.specs.{RowLines.{row_lines}, declared.sheet_writing.SheetText.{SheetText}}

abbrev pub sheet_left : SheetText → List ℕ
sheet_left s = drop s.written s.buffer.items ++ row_lines (drop s.done s.rows)

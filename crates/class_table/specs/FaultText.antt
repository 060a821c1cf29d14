-- How a fault of a table or of its line is shown: by its code and its name.
use Rattle.std.specs.Prelude.{ℕ, List, codes}
use Rattle.class_table.specs.declared.fault.{TableError.{TableError}, TableError.TheVariants.{BadLine, TooMany, OutOfRange, NotAscending}}

abbrev pub shown_table_error : TableError → List ℕ
shown_table_error BadLine = codes "23 BadLine"
shown_table_error TooMany = codes "20 TooMany"
shown_table_error OutOfRange = codes "21 OutOfRange"
shown_table_error NotAscending = codes "22 NotAscending"

use Rattle.std.proofs.Common.{◌≡◌, ◌++◌, codes, map, take}
use Rattle.line_text.specs.Lines.{text_of}
use Rattle.class_table.specs.NamedLines.{named_line}
use Rattle.potential_check.proofs.writing.append_rows.Given as goal

abbrev pub invariant-loop-index : goal.invariant-loop-index
invariant-loop-index l = l.text.items ≡ l.fn.text.items ++ text_of (map (named_line (codes "row")) (take l.index l.rows))

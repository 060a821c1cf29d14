use Rattle.std.proofs.Common.{drop, refl}
use Rattle.mte_engine.specs.RowLines.{row_lines}
use Rattle.mte_engine.proofs.sheet_writing.SheetTextOutput.piece.Goals as goal

pub returns-clause-first : goal.returns-clause-first
returns-clause-first c = let s = c.args.self.now in (row_lines (drop s.done s.rows), refl)

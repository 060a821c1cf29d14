use Rattle.std.proofs.{Common.{arith}, lemmas.List.{with_items_is}}
use Rattle.class_tuner.proofs.row_filling.first_row.Goals as goal

pub returns-clause-first : goal.returns-clause-first
returns-clause-first g c = grind (arith, with_items_is)

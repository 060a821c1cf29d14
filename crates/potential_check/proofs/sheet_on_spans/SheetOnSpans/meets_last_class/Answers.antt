use Rattle.std.proofs.{Common.{arith}, lemmas.Grind.{common_steps}}
use Rattle.potential_check.proofs.sheet_on_spans.SheetOnSpans.meets_last_class.Goals as goal

pub returns-else-is_empty : goal.returns-else-is_empty
returns-else-is_empty c = grind (arith, common_steps)

pub last_class_holds-requires : goal.last_class_holds-requires
last_class_holds-requires c = grind (arith, common_steps)

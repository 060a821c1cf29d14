use Rattle.std.{proofs.Common.{arith}, proofs.lemmas.List.{with_items_is}}
use Rattle.potential_check.proofs.FootprintLemmas.Bounds.{row-others, row-same}
use Rattle.potential_check.proofs.footprints.row_tests.edge_holds_in.Goals as goal

pub returns-else-is_known-clause-others : goal.returns-else-is_known-clause-others
returns-else-is_known-clause-others c = grind (arith, row-others)

pub returns-else-is_known-clause-bounds : goal.returns-else-is_known-clause-bounds
returns-else-is_known-clause-bounds c = grind (arith, row-same, with_items_is)

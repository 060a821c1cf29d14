use Rattle.std.{proofs.Common.{arith}, proofs.lemmas.List.{with_items_is}}
use Rattle.potential_check.proofs.FootprintLemmas.LawLemmas.{row-others, row-same}
use Rattle.class_tuner.proofs.fits.place.least_end_in.Goals as goal

pub returns-clause-others : goal.returns-clause-others
returns-clause-others c = grind (arith, row-others)

pub returns-clause-bounds : goal.returns-clause-bounds
returns-clause-bounds c = grind (arith, row-same, with_items_is)

use Rattle.std.proofs.Common.{sym, ◌∙◌}
use Rattle.mte_engine.proofs.TracePieces.{nothing_fed}
use Rattle.mte_engine.proofs.two_texts.BesideTraceEngine.input.Goals as goal

pub returns : goal.returns
returns c = c.new.ensures ∙ sym nothing_fed

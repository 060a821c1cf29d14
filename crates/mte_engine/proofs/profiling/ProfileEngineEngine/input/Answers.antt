use Rattle.mte_engine.proofs.TracePieces.{nothing_counted_yet}
use Rattle.mte_engine.proofs.profiling.ProfileEngineEngine.input.Goals as goal

pub returns : goal.returns
returns c = rw (c.new-2.ensures, c.in_ok-profile.ensures) nothing_counted_yet

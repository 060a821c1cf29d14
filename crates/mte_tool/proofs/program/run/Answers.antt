use Rattle.std.proofs.Common.{refl}
use Rattle.mte_tool.proofs.Ends.{run_without, silent_waits}
use Rattle.mte_tool.proofs.program.run.Goals as goal

pub returns-in-Ok : goal.returns-in-Ok
returns-in-Ok g c = rw (c.in-Ok.is, ← c.as_slice.ensures.value) c.run_words.ensures

pub returns-in-Err : goal.returns-in-Err
returns-in-Err g c =
    rw c.in-Err.is (run_without _ _ _ g.W.ByteSink.state _ _ _ (g.E.ByteSink.state c.args.errors.now) _ c.in-Err.refusal _ c.requires refl
    (silent_waits _ c.requires.silent) c.refuse.ensures)

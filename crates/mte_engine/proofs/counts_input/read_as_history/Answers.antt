use Rattle.std.proofs.Common.{refl}
use Rattle.mte_engine.proofs.CountsInput.{no_history}
use Rattle.mte_engine.proofs.counts_input.read_as_history.Goals as goal

pub returns-then-is_timeline : goal.returns-then-is_timeline
returns-then-is_timeline c = λ bytes taken.
    let i = c.args.input in
    rw (no_history i.is_timeline i.reader i.text.text.items bytes c.if-is_timeline.true taken) refl

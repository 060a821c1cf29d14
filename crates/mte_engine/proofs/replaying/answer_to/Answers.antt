use Rattle.mte_engine.proofs.LineAndTrace.{line_and_trace}
use Rattle.mte_engine.proofs.replaying.answer_to.Goals as goal

pub returns : goal.returns
returns c = λ bytes keeps.
    let i = c.args.input in
    let parts = line_and_trace i.line_has_ended i.line.items i.reader bytes keeps in
    rw c.deref.ensures.value at c.answer_to_parts.ensures bytes parts.0 parts.1

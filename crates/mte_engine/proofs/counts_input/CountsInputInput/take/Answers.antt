use Rattle.std.proofs.Common.{refl}
use Rattle.mte_engine.proofs.CountsInput.{keeps_text}
use Rattle.mte_engine.proofs.counts_input.CountsInputInput.take.Goals as goal

pub returns : goal.returns
returns c = λ bytes taken.
    let i = c.args.self.now in
    keeps_text i.is_timeline i.reader i.text.text.items c.take.new.self.text.items bytes c.args.piece.now c.if-self.false
    (c.in_ok-take.ensures i.text.text.items refl) taken

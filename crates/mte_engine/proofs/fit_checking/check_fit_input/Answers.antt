use Rattle.byte_streams.specs.TextLeft.{text_left}
use Rattle.mte_engine.proofs.LeadingFitInput.{fit_answered}
use Rattle.mte_engine.proofs.fit_checking.check_fit_input.Goals as goal

pub returns-in-Some : goal.returns-in-Some
returns-in-Some c = λ bytes taken.
    let i = c.args.input in
    fit_answered c.args.options text_left i.leading c.in-Some.leading i.reader i.text.text.items bytes c.check_read_timeline.result c.in-Some.is taken
    c.check_read_timeline.ensures

use Rattle.std.proofs.Common.{sym, ◌∙◌}
use Rattle.mte_engine.{proofs.LeadingFitInput.{keeps_begun}}
use Rattle.mte_engine.proofs.leading_fit_input.LeadingFitInput.begin.Goals as goal

pub returns : goal.returns
returns c = λ bytes taken.
    let i = c.args.self.now in
    let front = c.in-Some.front.now in
    let rest = c.in-Some.rest.now in
    let fit = rw c.in-Some-2.is at c.in_ok-leading.ensures in
    keeps_begun i.leading i.reader c.feed.new.self i.text.text.items c.new.result.text.items bytes front rest c.in-Some-2.leading c.requires
    (sym c.deref.ensures.value ∙ c.in-Some.ensures.parts) fit c.in_ok-feed.ensures taken

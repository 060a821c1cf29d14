use Rattle.std.proofs.{Common.{sym, ◌∙◌}, lemmas.Result.{IfOk-weaker}}
use Rattle.mte_engine.proofs.LeadingFitInput.{keeps_events}
use Rattle.mte_engine.proofs.leading_fit_input.LeadingFitInputInput.take.Goals as goal

pub returns-then-is_some : goal.returns-then-is_some
returns-then-is_some c =
    let i = c.args.self.now in
    IfOk-weaker c.feed.result _ _
    (λ _ fed bytes taken.
    keeps_events i.leading i.reader c.feed.new.self i.text.text.items bytes c.args.piece.now (sym c.is_some.ensures ∙ c.if-is_some.true) fed taken)
    c.feed.ensures

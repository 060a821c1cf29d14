use Rattle.std.proofs.Common.{ℕ, List, ◌++◌, ◌∙◌, sym, ap, append-nil}
use Rattle.replay_theory.specs.Report.{totals_text}
use Rattle.replay_core.specs.TheoryValues.{totals_in}
use Rattle.replay_core.proofs.totals.Totals.write.Goals as goal

pub returns : goal.returns
unfolding totals_text
returns c =
    sym (append-nil c.append_total-9.new.text.items)
    ∙ c.append_total-9.ensures.items _
    ∙ c.append_total-8.ensures.items _
    ∙ c.append_total-7.ensures.items _
    ∙ c.append_total-6.ensures.items _
    ∙ c.append_total-5.ensures.items _
    ∙ c.append_total-4.ensures.items _
    ∙ c.append_total-3.ensures.items _
    ∙ c.append_total-2.ensures.items _
    ∙ c.append_total.ensures.items _
    ∙ ap (λ (t : List ℕ). t ++ totals_text (totals_in c.args.self.now)) c.clear.ensures

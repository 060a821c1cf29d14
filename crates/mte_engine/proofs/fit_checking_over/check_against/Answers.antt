use Rattle.std.proofs.lemmas.Result.{IfOk-weaker}
use Rattle.mte_engine.proofs.fit_checking_over.check_against.Goals as goal

pub returns : goal.returns
returns c =
    IfOk-weaker c.answer_for.result _ _
    (λ answered written. record {
      verdict = c.in_ok-verdict.verdict;
      is_verdict = c.in_ok-verdict.ensures.verdict;
      least = c.in_ok-verdict.ensures.least;
      written = written;
    }) (rw c.claim_asked.ensures at c.answer_for.ensures)

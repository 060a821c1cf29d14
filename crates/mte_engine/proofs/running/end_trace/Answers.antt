use Rattle.mte_engine.proofs.running.end_trace.Goals as goal

pub returns-clause-counts : goal.returns-clause-counts
returns-clause-counts c = λ counts. c.in_ok-end.ensures.seen (λ few. counts) c.in_ok-end.ensures.few

use Rattle.potential_check.proofs.CertificateLemmas.SpanSums.{need-class}
use Rattle.potential_check.proofs.certificates.spans.Spans.need.Goals as goal

pub returns-clause-in_range : goal.returns-clause-in_range
returns-clause-in_range c =
    need-class c.self.inside.profile.now.counts c.self.inside.step c.args.place c.index.result.now _ _ _ c.self.invariant
    c.requires.some (rw (← c.self.view_is) at c.requires.within) c.index.ensures

use Rattle.std.proofs.Common.{arith}
use Rattle.tuner_theory.{proofs.LawLemmas.{spans_fit}, specs.Spans.{span_waste}}
use Rattle.potential_check.proofs.CertificateLemmas.SpanSums.{HasSpanSums, span_sums}
use Rattle.potential_check.proofs.certificates.spans.Spans.waste.Goals as goal

facts : (c : goal.After-bytes_up_to-bytes) →
    HasSpanSums (span_waste c.args.self.now.counts c.args.self.now.step c.args.i c.args.j) c.need.result
    c.requests_up_to-requests_before.result c.requests_up_to-requests.result c.bytes_up_to-bytes_before.result c.bytes_up_to-bytes.result
facts c =
    rw (
      c.need.ensures.need,
      c.requests_up_to-requests_before.ensures.requests,
      c.requests_up_to-requests.ensures.requests,
      c.bytes_up_to-bytes_before.ensures,
      c.bytes_up_to-bytes.ensures,
    )
    (span_sums c.args.self.now c.requests_up_to-requests.ensures.valid c.args.i c.args.j c.requires.order c.requires.within)

pub overflow_sub-result : goal.overflow_sub-result
overflow_sub-result c = (facts c).no_underflow.counted

pub overflow_sub-result-2 : goal.overflow_sub-result-2
overflow_sub-result-2 c = (facts c).no_underflow.bytes

pub overflow_mul-result : goal.overflow_mul-result
overflow_mul-result c = rw (c.from.ensures, c.from-2.ensures) (omega (arith, (facts c).fits))

pub overflow_sub-result-3 : goal.overflow_sub-result-3
overflow_sub-result-3 c = rw (c.from.ensures, c.from-2.ensures) (facts c).no_underflow.held

pub returns-clause-waste : goal.returns-clause-waste
returns-clause-waste c = rw (c.from.ensures, c.from-2.ensures) (facts c).waste_is

pub returns-clause-small : goal.returns-clause-small
returns-clause-small c = grind (arith, returns-clause-waste, spans_fit)

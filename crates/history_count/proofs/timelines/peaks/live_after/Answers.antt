use Rattle.std.proofs.Common.{arith}
use Rattle.history_count.proofs.TimelineLemmas.Peaks.{span-few, span-free, span-other_free, span-other_request, span-request}
use Rattle.history_count.proofs.timelines.peaks.live_after.Goals as goal

pub overflow_add-result : goal.overflow_add-result
overflow_add-result c = grind (arith, span-few)

pub returns-then-is_in : goal.returns-then-is_in
returns-then-is_in c =
    omega (
      arith,
      span-request c.args.events.now c.args.k c.requires.timeline c.requires.event c.args.span.low c.args.span.end c.in-Request.n
          c.requires.sizes c.in-Request.is c.if-is_in.ensures.0 c.if-is_in.ensures.1,
      c.requires.live,
    )

pub overflow_sub-result : goal.overflow_sub-result
overflow_sub-result c =
    omega (
      arith,
      span-free c.args.events.now c.args.k c.requires.timeline c.requires.event c.args.span.low c.args.span.end c.in-Free.n
          c.requires.sizes c.in-Free.is c.if-is_in-2.ensures.0 c.if-is_in-2.ensures.1,
      c.requires.live,
    )

pub returns-then-is_in-2 : goal.returns-then-is_in-2
returns-then-is_in-2 c =
    omega (
      arith,
      span-free c.args.events.now c.args.k c.requires.timeline c.requires.event c.args.span.low c.args.span.end c.in-Free.n
          c.requires.sizes c.in-Free.is c.if-is_in-2.ensures.0 c.if-is_in-2.ensures.1,
      c.requires.live,
    )

pub returns-else-is_in : goal.returns-else-is_in
returns-else-is_in c = grind (arith, span-other_request)

pub returns-else-is_in-2 : goal.returns-else-is_in-2
returns-else-is_in-2 c = grind (arith, span-other_free)

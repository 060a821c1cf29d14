use Rattle.std.proofs.Common.{◌≡◌, ◌*◌, ℕ, List, [], ◌∷◌, length, length-append, slice_index, arith, ap, sym, subst, ◌∙◌}
use Rattle.tuner_theory.specs.{Footprint.{blocks}, Histories.{most}, Timelines.{moments}}
use Rattle.history_count.proofs.TimelineLemmas.ClassSpans.{class-firsts, class-next, class-product, class-sum}
use Rattle.history_count.specs.Timelines.LiveBlocks.{IsFirst}
use Rattle.history_count.proofs.timelines.index.TimelineIndex.footprint.Goals as goal

pub overflow_mul-taken : goal.overflow_mul-taken
overflow_mul-taken c =
    let bytes_is : c.from-in-loop-number.result ≡ 16 * c.class-class.result = omega (arith, c.from-in-loop-number.ensures, c.from.ensures) in
    omega (
      arith,
      class-product c.args.table.now c.len.ensures.legal c.loop-number.number c.class-class.result c.class-class.ensures.class
          c.self.inside.events.now c.span_peak-peak.result c.loop-number.low c.class_end-end.result c.from-in-loop-number.result
          c.self.invariant.timeline c.loop-number.invariant.low c.class_end-end.ensures c.span_peak-peak.ensures.first bytes_is,
    )

pub overflow_add-taken : goal.overflow_add-taken
overflow_add-taken c =
    let its = c.span_peak-peak.ensures in
    let bytes_is : c.from-in-loop-number.result ≡ 16 * c.class-class.result = omega (arith, c.from-in-loop-number.ensures, c.from.ensures) in
    let product = class-product c.args.table.now c.len.ensures.legal c.loop-number.number c.class-class.result c.class-class.ensures.class
    c.self.inside.events.now c.span_peak-peak.result c.loop-number.low c.class_end-end.result c.from-in-loop-number.result
    c.self.invariant.timeline c.loop-number.invariant.low c.class_end-end.ensures its.first bytes_is in
    omega (arith, product, c.loop-number.invariant.small)

pub loop-number-preserved : goal.loop-number-preserved
loop-number-preserved c =
    let events = c.self.inside.events.now in
    let table = c.args.table.now in
    let number = c.loop-number.number in
    let class = c.class-class.result in
    let found = c.class-class.ensures.class in
    let legal = c.len.ensures.legal in
    let peak = c.span_peak-peak.result in
    let timeline = c.self.invariant.timeline in
    let low_is = c.loop-number.invariant.low in
    let end_is = c.class_end-end.ensures in
    let its = c.span_peak-peak.ensures in
    let most_is = rw (low_is, end_is) at its.most in
    let first = rw (low_is, end_is) at its.first in
    let bytes = c.from-in-loop-number.result in
    let bytes_is : bytes ≡ 16 * class = omega (arith, c.from-in-loop-number.ensures, c.from.ensures) in
    let product = class-product table legal number class found events peak c.loop-number.low c.class_end-end.result bytes timeline low_is end_is
    its.first bytes_is in
    let more = c.in_ok-push.ensures.items in
    record {
      low = end_is ∙ sym (class-next table legal number class found);
      cut = rw c.deref.ensures.value at c.line_from-stop.ensures.cut;
      sum = class-sum table legal number class found events timeline peak most_is first c.loop-number.taken.bytes bytes bytes_is
          c.loop-number.invariant.sum;
      small = omega (arith, c.loop-number.invariant.small, product);
      len = omega (arith, ap length more, length-append c.loop-number.taken.firsts.items (peak.first ∷ []), c.loop-number.invariant.len);
      first = λ j lt. subst
          (λ (firsts : List ℕ). IsFirst (blocks table (slice_index table j)) events (length events)
          (most (blocks table (slice_index table j)) (moments events)) (slice_index firsts j))
          (sym more)
          (class-firsts table legal number class found events timeline peak most_is first c.loop-number.taken.firsts.items
          c.loop-number.invariant.len c.loop-number.invariant.first j lt);
    }

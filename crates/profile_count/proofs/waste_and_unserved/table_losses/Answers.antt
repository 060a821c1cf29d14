use Rattle.std.proofs.Common.{◌≤◌, length, sym, ◌∙◌, arith}
use Rattle.tuner_theory.{proofs.Sums.{sum_below-none}, specs.Waste.{waste_at}}
use Rattle.profile_count.proofs.FirstServing.{class_at, ends_ascend, next_class, next_ready, none_left}
use Rattle.profile_count.proofs.Waste.{sum_up_to_the_rest, waste_in_class, waste_in_none}
use Rattle.profile_count.proofs.waste_and_unserved.table_losses.Goals as goal

pub loop-number-init : goal.loop-number-init
loop-number-init c = grind (arith, sum_below-none)

pub losses_between-total-requires-clause-some : goal.losses_between-total-requires-clause-some
losses_between-total-requires-clause-some c =
    let at = class_at c.args.table.now c.loop-number.number c.class.result c.class.ensures.class c.class.ensures.in_range.0 in
    omega (arith, c.loop-number.invariant.before at.within, at.is, c.class_end-end.ensures)

pub loop-number-preserved : goal.loop-number-preserved
loop-number-preserved c =
    let counts = c.args.counts.now in
    let table = c.args.table.now in
    let number = c.loop-number.number in
    let i = c.loop-number.invariant in
    let at = class_at table number c.class.result c.class.ensures.class c.class.ensures.in_range.0 in
    let rises = i.before at.within in
    let sum = c.losses_between-total.ensures.sum (waste_at counts table) (λ n le lt.
    waste_in_class counts table n c.class.result c.class_end-end.result
    (next_class c.loop-number.from n number c.class.result table at i.ready le (omega (arith, lt, c.class_end-end.ensures)))
    c.class_end-end.ensures at.wide) in
    record {
      summed = omega (arith, i.summed, sum);
      small = omega (arith, rises, at.is, c.class_end-end.ensures, c.losses_between-total.ensures.small, i.small);
      inside = omega (arith, c.class_end-end.ensures, c.class.ensures.in_range.1);
      before = λ more. omega (arith, ends_ascend 1 number table c.len-number-end.ensures.legal more, at.is, c.class_end-end.ensures);
      ready = next_ready c.loop-number.from c.class_end-end.result number c.class.result table at i.ready
          (omega (arith, rises, at.is, c.class_end-end.ensures)) (omega (arith, c.class_end-end.ensures));
    }

pub returns-clause-waste : goal.returns-clause-waste
returns-clause-waste c =
    let counts = c.args.counts.now in
    let table = c.args.table.now in
    let i = c.loop-number.invariant in
    let all : length table ≤ c.loop-number.number = omega (arith, c.len-number-end.ensures.len) in
    i.summed
    ∙ sym (sum_up_to_the_rest (waste_at counts table) c.loop-number.from (length counts) (omega (arith, i.inside, c.requires.sizes))
    (λ n le. waste_in_none counts table n (none_left c.loop-number.from n c.loop-number.number table i.ready all le)))

use Rattle.std.proofs.Common.{◌≡◌, ◌-◌, ◌*◌, ◌<◌, ◌≤◌, length, slice_index, sym, ap, ◌∙◌, arith, add-one}
use Rattle.class_table.specs.Sizes.{largest_counted}
use Rattle.tuner_theory.{proofs.Sums.{sum_below-more}, specs.Profiles.{greatest_count}}
use Rattle.profile_count.proofs.Waste.{small_term}
use Rattle.profile_count.proofs.waste_and_unserved.losses_between.Goals as goal

pub loop-n-preserved : goal.loop-n-preserved
loop-n-preserved c =
    let counts = c.args.counts.now in
    let n = c.loop-n.n in
    let within : n < length counts = omega (arith, c.requires.counts.sizes, c.requires.end) in
    let count : c.from.result ≤ greatest_count = omega (arith, c.from.ensures, c.requires.counts.in_range n 0 within) in
    let loss : c.from-in-loop-n.result ≤ largest_counted = omega (arith, c.from-in-loop-n.ensures, c.requires.end) in
    let term : c.from.result * c.from-in-loop-n.result ≡ slice_index counts n * (c.args.end - 1 - n) =
    ap (λ z. z * c.from-in-loop-n.result) c.from.ensures ∙ ap (λ z. slice_index counts n * z) c.from-in-loop-n.ensures in
    record {
      sum = λ f same.
          rw add-one (omega (arith, sum_below-more f n, c.loop-n.invariant.sum f same, same n (omega arith) (omega arith) ∙ sym term));
      small = omega (arith, c.loop-n.invariant.small, small_term c.from.result c.from-in-loop-n.result count loss);
    }

use Rattle.std.proofs.{Common.{◌≡◌, ◌*◌, ◌≤◌, length, arith, ap, ◌∙◌}, Math.Nat.{mul-le-mul}, lemmas.List.{length-map}}
use Rattle.std.proofs.lemmas.Option.{slice_get_within}
use Rattle.tuner_theory.specs.{Footprint.{blocks}, Histories.{most}, Timelines.{moments}}
use Rattle.history_count.proofs.TimelineLemmas.{Requests.{none_is_unserved, unserved_is_least}, Steps.{bytes_more}}
use Rattle.history_count.proofs.timelines.footprint.measure_over.Goals as goal

pub loop-number-preserved : goal.loop-number-preserved
loop-number-preserved c =
    let table = c.args.table.now in
    let counted = c.in_ok-peaks.peaks.most.items in
    let number = c.loop-number.number in
    let within = slice_get_within table number c.class.result c.class.ensures.class in
    let len : length counted ≡ length table =
    ap length c.in_ok-peaks.ensures.most ∙ length-map table (λ class. most (blocks table class) (moments c.args.events.now)) in
    let few = c.in_ok-peaks.ensures.small number c.index.result.now (omega (arith, within)) in
    let bytes : c.from-block_bytes.result ≤ 16 * 1024 = omega (arith, c.from-block_bytes.ensures, c.from.ensures, c.class.ensures.in_range.1) in
    let count : c.from-in-loop-number.result ≤ 1000000000 =
    omega (arith, c.from-in-loop-number.ensures, c.index.ensures, few, c.requires.few) in
    record {
      sum = bytes_more c.args.events.now table counted number c.loop-number.total c.class.result c.from-block_bytes.result
          c.from-in-loop-number.result c.in_ok-peaks.ensures.most c.class.ensures.class
          (omega (arith, c.from-block_bytes.ensures, c.from.ensures)) (rw c.from-in-loop-number.ensures c.index.ensures)
          c.loop-number.invariant.sum;
      small = omega (arith, c.loop-number.invariant.small, mul-le-mul bytes count);
    }

pub returns-clause-some : goal.returns-clause-some
returns-clause-some c = grind (arith, unserved_is_least)

pub returns-clause-none : goal.returns-clause-none
returns-clause-none c = grind (arith, none_is_unserved)

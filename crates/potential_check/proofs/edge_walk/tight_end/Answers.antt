use Rattle.std.proofs.{Common.{◌<◌, ◌≤◌, slice_index, arith}}
use Rattle.potential_check.{proofs.TightEnds.{exceeding}, specs.RowConditions.{edge_bound}}
use Rattle.potential_check.proofs.edge_walk.tight_end.Goals as goal

pub end-preserved : goal.end-preserved
end-preserved c =
    let s = c.args.spans.now in
    let before = c.args.before.now in
    let row = c.args.row.now in
    let place = c.args.start.place in
    let later = c.args.next.place in
    let old = c.end.end.place in
    let new = c.end_at-end.result.place in
    let down = c.end_at-end.ensures.place in
    let sides = c.sides-number.ensures in
    let less : slice_index row place < edge_bound s before place old =
    omega (arith, sides.1, sides.2, c.if-number-bound.false, c.if-number-bound-2.false) in
    let after : place < new = omega (arith, down, c.end.invariant.after, c.if-end-next.false, c.requires.next.1) in
    let tested : later < new → slice_index row later ≤ edge_bound s before later new =
    grind arith in
    record {
      end = c.end_at-end.ensures.end;
      after = after;
      upto = omega (arith, down, c.end.invariant.upto);
      here = λ j above upto. grind arith;
      next = λ j from above below. grind arith;
    }

pub returns-then-number-bound-clause-some : goal.returns-then-number-bound-clause-some
returns-then-number-bound-clause-some c = grind arith

pub returns-then-number-bound-2-clause-none : goal.returns-then-number-bound-2-clause-none
returns-then-number-bound-2-clause-none c = grind (arith, exceeding)

pub returns-then-exceeds_edge-clause-none : goal.returns-then-exceeds_edge-clause-none
returns-then-exceeds_edge-clause-none c = grind (arith, exceeding)

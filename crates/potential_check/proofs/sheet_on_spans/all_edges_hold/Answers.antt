use Rattle.std.proofs.{Common.{arith}, lemmas.Bool.{both_ways, false≢true}}
use Rattle.potential_check.{proofs.RowConditions.{adjacent, adjacent-more}, specs.RowConditions.{EdgesHold}}
use Rattle.potential_check.proofs.sheet_on_spans.all_edges_hold.Goals as goal

pub returns-then-not-edges_hold : goal.returns-then-not-edges_hold
returns-then-not-edges_hold c = (
  λ is. absurd (false≢true is),
  λ all. absurd (both_ways c.edges_hold.result c.if-not-edges_hold.true (c.edges_hold.ensures.1
      (adjacent (EdgesHold c.args.spans.now) c.args.rows.now c.loop-index.index _ _ (omega arith) c.row.ensures c.row-in-loop-index.ensures all))),
)

pub loop-index-preserved : goal.loop-index-preserved
loop-index-preserved c =
    adjacent-more (EdgesHold c.args.spans.now) c.args.rows.now c.loop-index.index _ _ (omega arith) c.row.ensures c.row-in-loop-index.ensures
    c.loop-index.invariant (c.edges_hold.ensures.0 c.if-not-edges_hold.false)

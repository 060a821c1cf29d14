use Rattle.std.proofs.{Common.{arith}, lemmas.Bool.{both_ways, false≢true}}
use Rattle.potential_check.{proofs.RowConditions.{adjacent, adjacent-more}, specs.RowConditions.{StageDropHolds}}
use Rattle.potential_check.proofs.sheet_on_spans.all_drops_hold.Goals as goal

pub returns-then-not-stage_drop_holds : goal.returns-then-not-stage_drop_holds
returns-then-not-stage_drop_holds c = (
  λ is. absurd (false≢true is),
  λ all. absurd (both_ways c.stage_drop_holds.result c.if-not-stage_drop_holds.true (c.stage_drop_holds.ensures.1
      (adjacent StageDropHolds c.args.rows.now c.loop-index.index _ _ (omega arith) c.row.ensures c.row-in-loop-index.ensures all))),
)

pub loop-index-preserved : goal.loop-index-preserved
loop-index-preserved c =
    adjacent-more StageDropHolds c.args.rows.now c.loop-index.index _ _ (omega arith) c.row.ensures c.row-in-loop-index.ensures
    c.loop-index.invariant (c.stage_drop_holds.ensures.0 c.if-not-stage_drop_holds.false)

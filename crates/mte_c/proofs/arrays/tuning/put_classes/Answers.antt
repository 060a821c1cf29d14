use Rattle.mte_c.proofs.ArrayLemmas.Laid.{one_more}
use Rattle.mte_c.proofs.arrays.tuning.put_classes.Goals as goal

pub loop-number-preserved : goal.loop-number-preserved
loop-number-preserved c = record {
  written =
      rw c.loop-number.invariant.written
      (one_more c.args.table.now c.args.classes.now c.loop-number.number c.class.result c.requires c.class.ensures.class);
  ends = c.loop-number.invariant.ends;
}

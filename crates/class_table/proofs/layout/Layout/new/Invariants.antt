use Rattle.class_table.proofs.LayoutSoFar.{IsFilled}
use Rattle.class_table.proofs.layout.Layout.new.Given as goal

abbrev pub invariant-loop-number : goal.invariant-loop-number
invariant-loop-number l = IsFilled (record { classes = l.table; granules = l.granules }) l.classes.items l.firsts.items l.slots l.number

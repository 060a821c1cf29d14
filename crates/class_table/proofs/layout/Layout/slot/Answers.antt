use Rattle.std.proofs.lemmas.Option.{slice_get_within}
use Rattle.class_table.proofs.layout.Layout.slot.Goals as goal

pub slot_of_class-requires : goal.slot_of_class-requires
slot_of_class-requires c = record {
  within = slice_get_within _ _ _ c.class_of.ensures.class;
  from = c.class_of.ensures.from;
  to = c.class_of.ensures.to;
}

use Rattle.std.proofs.Common.{sym, ◌∙◌, ap}
use Rattle.class_table.{proofs.Slots.{slots_of_classes_are_all}, specs.Layout.{first_slot}}
use Rattle.class_table.proofs.layout.Layout.slots.Goals as goal

pub returns-clause-slots : goal.returns-clause-slots
returns-clause-slots c =
    c.first_slot.ensures.first ∙ ap (first_slot c.args.self.now) c.classes.ensures.classes ∙ sym (slots_of_classes_are_all c.args.self.now)

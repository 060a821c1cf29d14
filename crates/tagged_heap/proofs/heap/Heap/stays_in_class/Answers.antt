-- The class of a request and a slot's are the same exactly where their numbers are.
use Rattle.std.proofs.Common.{◌∙◌, sym}
use Rattle.class_table.specs.Layout.{slot_of}
use Rattle.tagged_heap.{proofs.RequestClasses.{stays_is, room_in_class, class_in}, specs.HeapFields.{state_of}}
use Rattle.tagged_heap.proofs.heap.Heap.stays_in_class.Goals as goal

pub returns-clause-test : goal.returns-clause-test
returns-clause-test c =
    let chunk = rw (← c.self.view_is) at c.requires in
    rw (← c.self.view_is)
    (c.eq.ensures ∙ stays_is (state_of c.self.inside) c.args.n (slot_of c.self.inside.layout c.args.chunk.slot) c.args.chunk.number _
    c.class_number_for.result c.self.invariant.kept.sound.partition.table chunk.number
    c.class_number_for.ensures.ok c.class_number_for.ensures.err)

pub returns-clause-room : goal.returns-clause-room
returns-clause-room c = λ same.
    let chunk = rw (← c.self.view_is) at c.requires in
    rw (← c.self.view_is)
    (room_in_class (state_of c.self.inside) c.args.n (slot_of c.self.inside.layout c.args.chunk.slot) c.args.chunk.number _
    c.class_number_for.result (c.self.invariant.kept.sound.slots.wide c.args.chunk.slot chunk.slot) chunk.number
    c.class_number_for.ensures.ok (sym c.eq.ensures ∙ same))

pub returns-clause-class : goal.returns-clause-class
returns-clause-class c = λ same.
    let chunk = rw (← c.self.view_is) at c.requires in
    rw (← c.self.view_is)
    (class_in (state_of c.self.inside) c.args.n (slot_of c.self.inside.layout c.args.chunk.slot) c.args.chunk.number _
    c.class_number_for.result chunk.number c.class_number_for.ensures.ok (sym c.eq.ensures ∙ same))

use Rattle.std.proofs.{Common.{◌≡◌, sym, arith, None}, lemmas.Result.{err_from_is_err_and}}
use Rattle.heap_theory.specs.{Calls.{given_out}, State.{slot_in}}
use Rattle.tagged_heap.proofs.Giving.{IsTaken, request_refused, has_class, taken, exhausted, taken_room, given_held, given_shown}
use Rattle.tagged_heap.proofs.{Giving.{given_address}, Kept.{class_most}, heap.Heap.allocate.Goals.{In_ok-slot, After-give_out-address}}
use Rattle.tagged_heap.specs.{HeapAtRest.{shown_heap}, HeapFields.{state_of, parts_of}}
use Rattle.tagged_heap.proofs.heap.Heap.allocate.Goals as goal

pub returns-in_err-number-clause-slot : goal.returns-in_err-number-clause-slot
returns-in_err-number-clause-slot c =
    let p = err_from_is_err_and c.from_residual.result c.from_residual.ensures.1 in
    rw (p.1, p.2, ← c.self.view_is)
    (sym (request_refused (state_of c.self.inside) c.args.n c.in_err-number.field-0.0 c.in_err-number.ensures.err))

pub take_slot-requires : goal.take_slot-requires
take_slot-requires c = rw c.memory_mut-memory.ensures.value (has_class c.self.invariant c.in_ok-number.number c.in_ok-number.ensures.within)

pub returns-in_err-slot-clause-slot : goal.returns-in_err-slot-clause-slot
returns-in_err-slot-clause-slot c =
    let none : c.take_slot.result ≡ None = c.in_err-slot.ensures.ok_part in
    let takes = rw (c.memory_mut-memory.ensures.value, none) at c.take_slot.ensures.takes in
    let full =
    exhausted c.self.invariant c.args.n c.in_ok-number.number c.in_ok-number.ensures.ok.0 c.in_ok-number.ensures.ok.1
    c.in_ok-number.ensures.within takes in
    grind arith

-- the slot that was taken
took : (c : In_ok-slot) →
    IsTaken (state_of c.self.inside) (parts_of c.self.inside) c.self.invariant.kept c.take_slot.new.memory c.take_slot.new.lists
    c.take_slot.new.counters.items c.in_ok-slot.slot c.args.n
took c =
    taken c.self.invariant c.args.n c.in_ok-number.number c.in_ok-number.ensures.ok.0 c.in_ok-number.ensures.ok.1
    c.in_ok-number.ensures.within c.in_ok-slot.slot
    (rw (c.memory_mut-memory.ensures.value, c.in_ok-slot.ensures.ok_part) at c.take_slot.ensures.takes) c.take_slot.ensures.memory

pub give_out-address-requires-clause-room : goal.give_out-address-requires-clause-room
give_out-address-requires-clause-room c =
    taken_room c.self.invariant (took (goal.at.give_out-address-requires-clause-room c).In_ok-slot) c.in_ok-number.ensures.ok.0

shown : (c : After-give_out-address) →
    shown_heap c.self.inside.layout c.self.inside.quarantine.limit c.give_out-address.new.machine.memory c.self.inside.total
    c.give_out-address.new.machine.seed c.give_out-address.new.machine.tag
    ≡ given_out (state_of c.self.inside) c.in_ok-slot.slot c.args.n
shown c =
    given_shown c.self.invariant (took c.before.before.before.before) c.give_out-address.new.machine
    c.give_out-address.ensures.machine c.give_out-address.ensures.memory

pub invariant_of-self-2 : goal.invariant_of-self-2
invariant_of-self-2 c =
    let at = goal.at.invariant_of-self-2 c in
    rw (shown at.After-give_out-address)
    (given_held c.self.invariant (took at.In_ok-slot) c.give_out-address.new.machine
    c.give_out-address.ensures.machine c.give_out-address.ensures.memory)

pub returns-clause-address : goal.returns-clause-address
returns-clause-address c =
    rw (← c.self.view_is) (given_address c.self.invariant (took (goal.at.returns-clause-address c).In_ok-slot) c.give_out-address.result
    c.give_out-address.ensures.address)

pub returns-clause-given : goal.returns-clause-given
returns-clause-given c = grind (arith, shown)

pub returns-clause-slot : goal.returns-clause-slot
returns-clause-slot c = rw (← c.self.view_is) (sym (took (goal.at.returns-clause-slot c).In_ok-slot).request)

pub returns-clause-in_range : goal.returns-clause-in_range
returns-clause-in_range c = rw (← c.self.view_is) (took (goal.at.returns-clause-in_range c).In_ok-slot).given.reusable.in_range

-- the slot's block has room for the chunk
place_is : (c : In_ok-slot) → c.in_ok-slot.place.class ≡ (slot_in (state_of c.self.inside) c.in_ok-slot.slot).class
place_is c = (rw c.in_ok-slot.ensures.ok_part at c.take_slot.ensures.place).1

pub unused_bytes-requires-clause-room : goal.unused_bytes-requires-clause-room
unused_bytes-requires-clause-room c =
    let at = (goal.at.unused_bytes-requires-clause-room c).In_ok-slot in omega (arith, (took at).given.room, place_is at)

pub unused_bytes-requires-clause-few : goal.unused_bytes-requires-clause-few
unused_bytes-requires-clause-few c =
    let at = (goal.at.unused_bytes-requires-clause-few c).In_ok-slot in
    omega (
      arith,
      class_most (state_of c.self.inside) c.in_ok-slot.slot c.self.invariant.kept.sound (took at).given.reusable.in_range,
      place_is at,
    )

pub returns-clause-loss : goal.returns-clause-loss
returns-clause-loss c =
    let at = (goal.at.returns-clause-loss c).In_ok-slot in
    rw (← c.self.view_is, (took at).given.class) (omega (arith, c.unused_bytes.ensures, place_is at))

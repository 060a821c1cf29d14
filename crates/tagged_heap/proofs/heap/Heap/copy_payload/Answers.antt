use Rattle.std.proofs.Common.{◌*◌, List, ℕ, length, ap, arith}
use Rattle.machine_theory.{proofs.ByteLaws.{bytes_at-below, length-bytes_at}, specs.Memory.{bytes_at}}
use Rattle.class_table.specs.Layout.{slot_of}
use Rattle.heap_theory.specs.{State.{payload_start}}
use Rattle.tagged_heap.proofs.PayloadWritten.{HasPayload, payload_within, payload_seen, payload_kept, payload_shown}
use Rattle.tagged_heap.{proofs.heap.Heap.copy_payload.Goals.{After-self-1}}
use Rattle.tagged_heap.proofs.heap.Heap.copy_payload.Goals as goal

pub copy_bytes-requires-clause-source : goal.copy_bytes-requires-clause-source
copy_bytes-requires-clause-source c =
    omega (
      arith,
      payload_within c.self.invariant.kept c.args.from.slot c.args.count (rw (← c.self.view_is) at c.requires.from).slot
          (rw (← c.self.view_is) at c.requires.source),
      (rw (← c.self.view_is) at c.requires.from).start,
      ap length c.memory_mut-memory.ensures.value,
    )

pub copy_bytes-requires-clause-target : goal.copy_bytes-requires-clause-target
copy_bytes-requires-clause-target c =
    omega (
      arith,
      payload_within c.self.invariant.kept c.args.to.slot c.args.count (rw (← c.self.view_is) at c.requires.to)
          (rw (← c.self.view_is) at c.requires.target),
      rw (← c.self.view_is) at c.requires.start,
      ap length c.memory_mut-memory.ensures.value,
    )

abbrev bytes : After-self-1 → List ℕ
bytes c = bytes_at c.self.inside.machine.memory (16 * payload_start (slot_of c.self.inside.layout c.args.from.slot)) c.args.count

payload : (c : After-self-1) → HasPayload c.self.inside.layout c.self.inside.machine.memory c.copy_bytes.new.self c.args.to.slot (bytes c)
payload c = grind (arith, length-bytes_at, bytes_at-below)

pub invariant_of-self : goal.invariant_of-self
invariant_of-self c = payload_kept c.self.invariant (payload c)

-- the bytes that are copied are those that are seen
pub returns : goal.returns
returns c =
    let shown = payload_shown c.self.invariant (payload c) in
    grind (arith, payload_seen)

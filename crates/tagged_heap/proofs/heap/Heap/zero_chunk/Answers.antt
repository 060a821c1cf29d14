use Rattle.std.proofs.{Common.{◌*◌, ◌<◌, ℕ, length, replicate, ap, arith}, lemmas.List.{length-replicate}}
use Rattle.std.proofs.lemmas.List.Elements.{All-replicate}
use Rattle.class_table.specs.Sizes.{chunk_granules}
use Rattle.tagged_heap.proofs.PayloadWritten.{HasPayload, payload_within, payload_kept, payload_shown}
use Rattle.tagged_heap.proofs.heap.Heap.zero_chunk.Goals.{After-self-1}
use Rattle.tagged_heap.proofs.heap.Heap.zero_chunk.Goals as goal

pub zero_granules-requires : goal.zero_granules-requires
zero_granules-requires c =
    let room = rw (← c.self.view_is) at c.requires.room in
    let start = rw (← c.self.view_is) at c.requires.start in
    let within =
    payload_within c.self.invariant.kept c.args.given.slot (16 * chunk_granules c.args.n) (rw (← c.self.view_is) at c.requires.slot)
    (omega (arith, room)) in
    omega (arith, within, start, c.chunk_granules.ensures.granules, ap length c.memory_mut-memory.ensures.value)

payload : (c : After-self-1) → HasPayload c.self.inside.layout c.self.inside.machine.memory c.zero_granules.new.self c.args.given.slot
    (replicate (16 * chunk_granules c.args.n) 0)
payload c =
    let room = rw (← c.self.view_is) at c.requires.room in
    let start = rw (← c.self.view_is) at c.requires.start in
    record {
      in_range = rw (← c.self.view_is) at c.requires.slot;
      room = omega (arith, room, length-replicate {A = ℕ} (16 * chunk_granules c.args.n) 0);
      fit = All-replicate (λ b. b < 256) (16 * chunk_granules c.args.n) 0 (omega arith);
      written_is = rw (← c.memory_mut-memory.ensures.value, ← start, ← c.chunk_granules.ensures.granules) c.zero_granules.ensures.written;
    }

pub invariant_of-self : goal.invariant_of-self
invariant_of-self c = payload_kept c.self.invariant (payload c)

pub returns : goal.returns
returns c =
    let shown = payload_shown c.self.invariant (payload c) in
    rw (← c.self.view_is) (λ k. record { state = shown k; frees = c.self.inside.frees })

use Rattle.std.proofs.{Common.{◌<◌, All, arith}, lemmas.List.Elements.{All-from_get_or}}
use Rattle.tagged_heap.proofs.{Stores.{store_held, store_shown, headers_stay}, heap.Heap.store.Goals.{After-store}}
use Rattle.tagged_heap.proofs.heap.Heap.store.Goals as goal

fit : (c : After-store) → All (λ b. b < 256) c.args.bytes.now
fit c = All-from_get_or (λ b. b < 256) c.args.bytes.now 0 (λ i within. omega (arith, c.type_inv.bytes i))

pub invariant_of-self : goal.invariant_of-self
invariant_of-self c = grind (arith, store_held, fit)

pub returns-clause-ok : goal.returns-clause-ok
returns-clause-ok c = grind (arith, store_shown, fit)

pub returns-clause-headers : goal.returns-clause-headers
returns-clause-headers c =
    rw (← c.self.view_is)
    (headers_stay c.self.invariant c.args.address c.args.bytes.now c.requires.len.0 (rw (← c.self.view_is) at c.requires.tagged)
    (fit (goal.at.returns-clause-headers c).After-store) _ c.store.ensures.answer c.store.ensures.ok c.store.ensures.err)

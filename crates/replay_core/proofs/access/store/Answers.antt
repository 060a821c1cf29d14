use Rattle.std.proofs.Common.{◌≡◌, ℕ, ap, sym, subst, replicate}
use Rattle.heap_theory.specs.Calls.{store_step}
use Rattle.tagged_heap.specs.HeapAtRest.{HeapAndFrees}
use Rattle.replay_core.proofs.Accesses.{store_is}
use Rattle.replay_core.proofs.access.store.Goals as goal

pub returns-in-Ok-clause-state : goal.returns-in-Ok-clause-state
returns-in-Ok-clause-state c =
    subst (λ (len : ℕ). c.store_run.new.self.state ≡ store_step c.args.heap.now.state c.args.address (replicate len c.args.byte))
    c.from.ensures
    (store_is c.args.heap.now.state c.store_run.new.self.state c.args.address c.from.result c.args.byte (sym c.in-Ok.ensures.answer)
    (ap (λ (v : HeapAndFrees). v.state) c.in-Ok.ensures.ok))

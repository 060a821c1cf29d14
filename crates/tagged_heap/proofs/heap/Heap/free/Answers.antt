-- The chunk that the pointer names decides the answer and the new state; where it names none, nothing changes.
use Rattle.std.proofs.{Common.{refl, ap}, lemmas.Bool.{ne_eqb}, lemmas.Result.{err_from_is_err_and}}
use Rattle.heap_theory.specs.Calls.{free_step}
use Rattle.tagged_heap.{proofs.CallSteps.{free_accepted}, specs.HeapAtRest.{HeapAndFrees}}
use Rattle.tagged_heap.proofs.heap.Heap.free.Goals as goal

pub returns-in_err-chunk-clause-answer : goal.returns-in_err-chunk-clause-answer
unfolding free_step
returns-in_err-chunk-clause-answer c =
    let p = err_from_is_err_and c.from_residual.result c.from_residual.ensures.1 in
    rw (p.1, p.2, ne_eqb c.args.p 0 c.if-p-eq0.false, c.in_err-chunk.ensures.err) refl

pub returns-clause-answer : goal.returns-clause-answer
unfolding free_step
returns-clause-answer c = rw (ne_eqb c.args.p 0 c.if-p-eq0.false, c.in_ok-chunk.ensures.ok) refl

pub returns-clause-state : goal.returns-clause-state
unfolding free_step
returns-clause-state c = rw (c.free_chunk.ensures, ne_eqb c.args.p 0 c.if-p-eq0.false, c.in_ok-chunk.ensures.ok) refl

pub returns-clause-counted : goal.returns-clause-counted
returns-clause-counted c = λ _. ap (λ (x : HeapAndFrees). x.frees) c.free_chunk.ensures

-- what is answered is the definition's answer, of which the law speaks
pub returns-in_err-chunk-clause-accepted : goal.returns-in_err-chunk-clause-accepted
returns-in_err-chunk-clause-accepted c =
    free_accepted c.args.self.now.state c.args.p _ c.chunk.ensures.sound (returns-in_err-chunk-clause-answer c)

pub returns-clause-accepted : goal.returns-clause-accepted
returns-clause-accepted c = free_accepted c.args.self.now.state c.args.p _ c.chunk.ensures.sound (returns-clause-answer c)

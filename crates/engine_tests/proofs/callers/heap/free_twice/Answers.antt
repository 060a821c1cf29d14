use Rattle.std.proofs.Common.{◌∙◌, ap, sym}
use Rattle.heap_theory.specs.{Calls.{free_step}, State.{Heap}}
use Rattle.engine_tests.proofs.FreedTwice.{second_free}
use Rattle.engine_tests.proofs.callers.heap.free_twice.Goals as goal

pub returns : goal.returns
returns c =
    c.free-2.ensures.answer
    ∙ ap (λ (h : Heap). (free_step h c.args.p).answer) c.free.ensures.state
    ∙ second_free c.args.heap.now.state c.args.p c.requires.not_null (sym c.free.ensures.answer ∙ c.in_ok-free.was)

use Rattle.std.proofs.{Common.{refl, sym, ◌∙◌, arith}, lemmas.Grind.{common_steps}}
use Rattle.trace_reader.proofs.Reaching.{judged_event, judged_fault, judged_memory, not_pushed, pushed}
use Rattle.trace_reader.proofs.reader.TraceReader.add.Goals as goal

pub returns-then-is_err-clause-reached : goal.returns-then-is_err-clause-reached
returns-then-is_err-clause-reached g c =
    let i = c.self.inside in
    let kept = not_pushed c.push.result _ (sym c.is_err.ensures.value ∙ c.if-is_err.true) c.push.ensures.err in
    rw c.in-Ok.is
    (judged_memory c.args.self.now c.fail.new.self i.events i.lines i.rest.items i.status c.in-Ok.event c.fail.result c.self.view_is
    c.requires.open (c.fail.ensures.failed ∙ rw kept refl) c.fail.ensures.answer)

pub returns-else-is_err-clause-reached : goal.returns-else-is_err-clause-reached
returns-else-is_err-clause-reached g c =
    let i = c.self.inside in
    let more = pushed c.push.result _ (sym c.is_err.ensures.value ∙ c.if-is_err.false) c.push.ensures.ok in
    rw c.in-Ok.is
    (judged_event c.args.self.now i.events i.lines i.rest.items i.status c.in-Ok.event c.push.new.self
    c.clear.new.self.items c.self.view_is c.requires.open more c.clear.ensures)

pub returns-in-Err-clause-reached : goal.returns-in-Err-clause-reached
returns-in-Err-clause-reached g c =
    let i = c.fail-in-Err.inside in
    rw c.in-Err.is
    (judged_fault c.args.self.now c.fail-in-Err-2.new.self i.events i.lines i.rest.items i.status c.in-Err.fault
    c.fail-in-Err-2.result c.fail-in-Err.view_is c.requires.open c.fail-in-Err-2.ensures.failed c.fail-in-Err-2.ensures.answer)

pub invariant_of-self-in-Ok : goal.invariant_of-self-in-Ok
invariant_of-self-in-Ok g c = grind (arith, common_steps)

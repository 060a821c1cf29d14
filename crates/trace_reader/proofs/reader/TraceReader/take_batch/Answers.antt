use Rattle.std.proofs.Common.{◌≡◌, ◌+◌, ◌≤◌, ◌∙◌, ◌++◌, Err, length, take, map, sym, subst, refl, arith}
use Rattle.std.proofs.lemmas.{Grind.{common_steps}, List.{length-map, length-take}}
use Rattle.trace_reader.proofs.{Reaching.{IsPrefix-fed, fields, not_pushed, pushed, ran_out}, SpelledEvents.{batch_taken, lines_are_long}}
use Rattle.trace_reader.specs.{Kept.{event_of}, Reached.{IsOnTheWay}, Reading.{Reading, fed}}
use Rattle.trace_reader.specs.declared.fault.TraceError.TheVariants.{OutOfMemory}
use Rattle.trace_reader.proofs.reader.TraceReader.take_batch.Goals as goal

pub returns-then-is_err-clause-way : goal.returns-then-is_err-clause-way
returns-then-is_err-clause-way g c =
    let old = c.args.self.now in
    let kept = not_pushed c.extend.result _ (sym c.is_err.ensures.value ∙ c.if-is_err.true) c.extend.ensures.err in
    ran_out old (fed old c.args.text.now) _ (Err OutOfMemory)
    (grind arith) refl (IsPrefix-fed old c.args.text.now)

pub returns-clause-way : goal.returns-clause-way
returns-clause-way g c =
    let i = c.self.inside in
    let count = c.events_in_front-count.result.0 in
    let kept = take count c.events_in_front-count.new.batch in
    let es = map event_of kept in
    let after = c.events_in_front-count.result.1.now in
    let more = pushed c.extend.result _ (sym c.is_err.ensures.value ∙ c.if-is_err.false) c.extend.ensures.ok in
    let len : length es ≡ count = length-map kept event_of ∙ length-take count c.events_in_front-count.new.batch ∙ omega arith in
    let few : i.lines + length es ≤ 1000000 = omega arith in
    let same : fields (i.events ++ es) (i.lines + length es) i.rest.items i.status
    ≡ fields c.extend.new.self (i.lines + count) i.rest.items i.status
    = rw (more, len) refl in
    subst (λ (r : Reading). IsOnTheWay c.args.self.now c.args.text.now r after) same
    (batch_taken c.args.self.now i.events i.lines i.rest.items i.status es c.args.text.now after c.self.view_is c.requires few
    c.events_in_front-count.ensures.range c.events_in_front-count.ensures.lines).0

pub returns-clause-shorter : goal.returns-clause-shorter
returns-clause-shorter g c = grind (arith, length-map, length-take, lines_are_long)

pub invariant_of-self-2 : goal.invariant_of-self-2
invariant_of-self-2 g c = grind (arith, common_steps)

pub invariant_of-self : goal.invariant_of-self
invariant_of-self g c = grind (arith, common_steps)

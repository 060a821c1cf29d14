use Rattle.std.proofs.{Common.{◌≡◌, List, ◌++◌, ◌∷◌, [], arith, sym, ap, ◌∙◌}, lemmas.List.{length-append}}
use Rattle.trace_event.specs.declared.event.Event.{Event}
use Rattle.mte_engine.proofs.Counting.{first_of, length-requested_sizes, one_requested, one_taken}
use Rattle.mte_engine.proofs.trace_counting.count_out.Goals as goal

pub loop-event-preserved : goal.loop-event-preserved
loop-event-preserved c =
    let inv = c.loop-event.invariant.1 in
    let taken = c.loop-event.invariant.0 in
    let event = c.in-Some.event in
    let all = c.args.reader.now.events in
    let here = first_of c.loop-event.reader.events event (sym c.in-Some.ensures.event) in
    let parts : all ≡ (taken ++ event ∷ []) ++ c.next_event.new.self.events =
    one_taken all taken c.loop-event.reader.events c.next_event.new.self.events event inv.parts
    (here ∙ ap (λ (t : List Event). event ∷ t) (sym c.in-Some.ensures.rest)) in (
      taken ++ event ∷ [],
      grind (arith, length-append, length-requested_sizes, one_requested),
    )

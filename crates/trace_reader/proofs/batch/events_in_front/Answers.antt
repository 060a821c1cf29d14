use Rattle.std.proofs.Common.{append_assoc, ◌+◌, ◌∙◌, ◌++◌, ◌∷◌, [], List, All, ap, map, refl, take, sym, subst, arith, rules}
use Rattle.std.proofs.lemmas.{Grind.{take-set_at}, List.{map-append}, List.Elements.{All-push}}
use Rattle.trace_event.specs.{Ranges.{IsInRange}, declared.event.Event.{Event}}
use Rattle.trace_reader.{proofs.SpelledEvents.{one_line_more}, specs.Kept.{event_of}, specs.declared.kept_event.KeptEvent.{KeptEvent}}
use Rattle.trace_reader.proofs.batch.events_in_front.Goals as goal

pub lines-preserved : goal.lines-preserved
lines-preserved g c =
    let inv = c.lines.invariant in
    let batch = c.lines.batch in
    let count = c.lines.count in
    let event = c.in-Some.event in
    let kept = c.of.result in
    let before = map event_of (take count batch) in
    let taken = ap (λ (ks : List KeptEvent). map event_of ks) (take-set_at batch count (count + 1) kept refl (omega arith))
    ∙ map-append event_of (take count batch) (kept ∷ []) ∙ ap (λ (e : Event). before ++ e ∷ []) c.of.ensures in
    record {
      lines = one_line_more c.args.text.now c.lines.rest.now c.in-Some.after.now before _ event inv.lines
          c.in-Some.ensures.spelled taken;
      range = subst (All IsInRange) (sym taken) (All-push IsInRange before event inv.range c.in-Some.ensures.range);
      few = omega arith;
      room = search rules;
      seen = grind (arith, append_assoc);
    }

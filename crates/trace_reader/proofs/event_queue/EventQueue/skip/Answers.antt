use Rattle.std.proofs.{Common.{◌∙◌, List, ap, drop, map, sym}, lemmas.List.{drop-drop, drop-map}}
use Rattle.trace_event.specs.declared.event.Event.{Event}
use Rattle.trace_reader.specs.{Kept.{event_of}, declared.kept_event.KeptEvent.{KeptEvent}}
use Rattle.trace_reader.proofs.event_queue.EventQueue.skip.Goals as goal

pub returns : goal.returns
returns c =
    let q = c.self.inside in
    let n = c.args.n in
    ap (λ (kept : List KeptEvent). map event_of kept) (sym (drop-drop n q.taken q.events.items))
    ∙ sym (drop-map event_of n (drop q.taken q.events.items)) ∙ ap (λ (events : List Event). drop n events) c.self.view_is

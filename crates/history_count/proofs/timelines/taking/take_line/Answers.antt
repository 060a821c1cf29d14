use Rattle.std.proofs.Common.{◌≡◌, ◌++◌, [], ◌∷◌, List, refl, sym, ap, ◌∙◌}
use Rattle.tuner_theory.specs.declared.size_event.SizeEvent.{SizeEvent}
use Rattle.history_count.proofs.TimelineLemmas.OnePass.{IsNextLine, taken-event, taken-fault, taken-none}
use Rattle.history_count.proofs.timelines.taking.take_line.Goals as goal

pub returns : goal.returns
returns c =
    let before = c.args.events.now.items in
    let line = c.args.line.now in
    let next : IsNextLine (line ∷ []) [] c.event_in.result = record { line = line; parts = refl; read = sym c.event_in.ensures.event } in
    let same : c.deref.result.now ≡ before = c.deref.ensures.value ∙ c.make_room.ensures.kept in
    let pushed : c.push_reserved.new.self.items ≡ before ++ c.in-Ok.event ∷ [] =
    c.push_reserved.ensures.items ∙ ap (λ (events : List SizeEvent). events ++ c.in-Ok.event ∷ []) c.make_room.ensures.kept in
    rw pushed
    (taken-event before before c.args.live.now (line ∷ []) (line ∷ []) []
    (taken-none before c.args.live.now (line ∷ []) c.requires.run c.requires.live) c.event_in.result c.in-Ok.event c.admit_event.new.live next
    (sym (rw same at c.in-Ok.ensures.event)) (rw same at c.in-Ok.ensures.live))

pub returns-in-Err : goal.returns-in-Err
returns-in-Err c =
    let before = c.args.events.now.items in
    let line = c.args.line.now in
    let next : IsNextLine (line ∷ []) [] c.event_in.result = record { line = line; parts = refl; read = sym c.event_in.ensures.event } in
    let same : c.deref.result.now ≡ before = c.deref.ensures.value ∙ c.make_room.ensures.kept in
    rw c.make_room.ensures.kept
    (taken-fault before before c.args.live.now (line ∷ []) (line ∷ []) []
    (taken-none before c.args.live.now (line ∷ []) c.requires.run c.requires.live) c.event_in.result c.in-Err.fault c.admit_event.new.live next
    (sym (rw same at c.in-Err.ensures.event)))

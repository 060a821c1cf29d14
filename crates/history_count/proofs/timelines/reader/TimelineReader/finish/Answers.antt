use Rattle.std.proofs.Common.{◌≡◌, [], List, Ok, ap, subst, sym, ◌∙◌}
use Rattle.line_text.specs.Lines.{lines}
use Rattle.tuner_theory.specs.declared.size_event.SizeEvent.{SizeEvent}
use Rattle.history_count.proofs.TimelineLemmas.Pieces.{ends_open, last_is_taken, stopped}
use Rattle.history_count.specs.Timelines.Pieces.{IsReadingOf, Reading, going_on}
use Rattle.history_count.proofs.timelines.reader.TimelineReader.finish.Goals as goal

pub returns-in-Some : goal.returns-in-Some
returns-in-Some c = λ bytes is.
    let i = c.self.inside in
    let old : Reading = record { events = i.events.items; fault = i.fault; rest = i.rest.items } in
    let Reads : Reading → Type 0 = λ r. IsReadingOf r bytes in
    let reads = subst Reads (sym c.self.view_is) is in
    rw (c.error_after.ensures, c.deref.ensures.value) (stopped old bytes c.in-Some.fault reads c.in-Some.is)

pub returns-in-None : goal.returns-in-None
returns-in-None c = λ bytes is.
    let i = c.self.inside in
    let old : Reading = record { events = i.events.items; fault = i.fault; rest = i.rest.items } in
    let Reads : Reading → Type 0 = λ r. IsReadingOf r bytes in
    let reads = subst Reads (sym c.self.view_is) is in
    let these : c.lines_in.result ≡ lines i.rest.items = c.lines_in.ensures ∙ ap lines c.deref-2.ensures.value in
    let taken = rw these at c.in_ok-take_lines.ensures in
    last_is_taken old bytes _ c.take_lines.new.events.items c.in_ok-take_lines.field-0 reads c.in_default.is taken
    ∙ ap (λ o. going_on c.take_lines.new.events.items o []) c.in-None.is ∙ ends_open c.take_lines.new.events.items
    ∙ ap (λ (events : List SizeEvent). Ok events) (sym c.new.ensures)

pub returns-in-Some-2 : goal.returns-in-Some-2
returns-in-Some-2 c = λ bytes is.
    let i = c.self.inside in
    let old : Reading = record { events = i.events.items; fault = i.fault; rest = i.rest.items } in
    let Reads : Reading → Type 0 = λ r. IsReadingOf r bytes in
    let reads = subst Reads (sym c.self.view_is) is in
    let these : c.lines_in.result ≡ lines i.rest.items = c.lines_in.ensures ∙ ap lines c.deref-2.ensures.value in
    let taken = rw these at c.in_ok-take_lines.ensures in
    rw (c.error_after-in-Some-2.ensures, c.deref-in-Some-2.ensures.value)
    (last_is_taken old bytes _ c.take_lines.new.events.items c.in_ok-take_lines.field-0 reads c.in_default.is taken
    ∙ ap (λ o. going_on c.take_lines.new.events.items o []) c.in-Some-2.is)

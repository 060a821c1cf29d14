use Rattle.std.proofs.Common.{◌≡◌, ◌++◌, ◌∷◌, [], subst, sym, ◌∙◌}
use Rattle.line_text.specs.Lines.{lines}
use Rattle.history_count.{proofs.TimelineLemmas.Pieces.{fed_newline, is_unfailed}, specs.Timelines.Pieces.{IsFed, Reading}}
use Rattle.history_count.proofs.timelines.reader.TimelineReader.end_line.Goals as goal

pub returns-clause-fed : goal.returns-clause-fed
returns-clause-fed c =
    let i = c.self.inside in
    let old : Reading = record { events = i.events.items; fault = i.fault; rest = i.rest.items } in
    let new : Reading = record {
      events = c.take_lines-taken.new.events.items;
      fault = c.in_ok-self-inside.field-0;
      rest = c.clear.new.self.items;
    } in
    let Fed : Reading → Type 0 = λ r. IsFed r (10 ∷ []) new in
    let unfailed = is_unfailed i.fault (sym c.is_some.ensures ∙ c.if-is_some.false) in
    let kept : lines c.deref.result.now ≡ c.lines_in.result = sym c.lines_in.ensures in
    let kept-is : c.deref.result.now ≡ i.rest.items ++ 10 ∷ [] = c.deref.ensures.value ∙ c.in_ok-push.ensures.items in
    let taken = rw (← kept) at c.in_ok-self-inside.ensures in
    subst Fed c.self.view_is
    (fed_newline old new c.take_lines-taken.new.live c.deref.result.now c.self.invariant.2 unfailed kept-is c.clear.ensures.items taken)

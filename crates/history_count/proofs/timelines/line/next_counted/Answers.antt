use Rattle.std.proofs.{Common.{◌<◌, length, drop, eqb, eqb-true, get_or, arith, refl, ap, sym, ◌∙◌}, lemmas.List.{take_rest}}
use Rattle.history_count.proofs.TimelineLemmas.OnePass.{first_event, signed-cut, signed-event, signed-rest}
use Rattle.history_count.proofs.timelines.line.next_counted.Goals as goal

pub size_line-requires : goal.size_line-requires
size_line-requires c = record { sign = eqb-true (get_or c.rest-text.result.now 0 0) 45 }

pub returns-clause-event : goal.returns-clause-event
returns-clause-event c =
    let text = c.rest-text.result.now in
    let is_free = eqb (get_or text 0 0) 45 in
    let some : 0 < length text = omega arith in
    rw c.event_of.ensures
    (ap first_event (sym c.rest-text.ensures)
    ∙ signed-event text _ is_free c.in_ok-n.n (signed-cut text is_free some refl) c.in_ok-n.ensures.size)

pub returns-clause-taken : goal.returns-clause-taken
returns-clause-taken c =
    let text = c.rest-text.result.now in
    let is_free = eqb (get_or text 0 0) 45 in
    let some : 0 < length text = omega arith in
    rw take_rest at c.lines_in.ensures ∙ c.in_ok-n.ensures.after
    ∙ signed-rest text _ is_free c.in_ok-n.n (signed-cut text is_free some refl) c.in_ok-n.ensures.size ∙ ap (drop 1) c.rest-text.ensures

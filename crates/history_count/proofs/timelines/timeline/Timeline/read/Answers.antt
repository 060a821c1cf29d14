use Rattle.std.{proofs.Common.{◌≡◌, ◌++◌, [], ◌∷◌, true, ap, sym, ◌∙◌, rules}, specs.Str.{bytes_eq}}
use Rattle.line_text.specs.Lines.{ended, lines}
use Rattle.history_count.proofs.TimelineLemmas.{LineByLine.{head_read}, Pieces.{after_head, nothing_is_read}}
use Rattle.history_count.specs.Timelines.TimelineText.{events_from, head_line, timeline_of}
use Rattle.history_count.proofs.timelines.timeline.Timeline.read.Goals as goal

pub returns : goal.returns
returns c =
    let first = c.in-Some.first.now in
    let rest = c.rest.result.now in
    let parts : lines c.args.text.now ≡ first ∷ c.next.new.self = sym c.lines_in-lines.ensures ∙ c.in-Some.ensures.steps in
    let head : bytes_eq first head_line ≡ true = search rules in
    let same : timeline_of (ended head_line ++ rest) ≡ timeline_of c.args.text.now =
    after_head rest ∙ ap (events_from 2 []) c.rest.ensures ∙ sym (head_read c.args.text.now first c.next.new.self parts head) in
    let given = c.finish.ensures rest (c.in_ok-feed.ensures [] (rw c.in_ok-reader.ensures nothing_is_read)) in
    rw same at given

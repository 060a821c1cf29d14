use Rattle.std.proofs.{Common.{◌≡◌, ◌++◌, ◌∷◌, [], List, ℕ, ap, append_assoc, sym, ◌∙◌}, lemmas.Result.{IfOk-weaker}}
use Rattle.history_count.proofs.TimelineLemmas.Pieces.{fed_reading, fed_then}
use Rattle.history_count.proofs.timelines.reader.TimelineReader.feed.Goals as goal

pub returns : goal.returns
returns c =
    let old = c.args.self.now in
    let new = c.keep-3.new.self in
    let end = c.in-Some.end.now in
    let after = c.in-Some.after.now in
    let parts : c.args.piece.now ≡ (end ++ (10 ∷ [])) ++ (c.whole_lines.result.0.now ++ c.whole_lines.result.1.now) =
    c.in-Some.ensures.cut ∙ ap (λ (rest : List ℕ). end ++ 10 ∷ rest) c.whole_lines.ensures.parts
    ∙ sym (append_assoc end (10 ∷ []) (c.whole_lines.result.0.now ++ c.whole_lines.result.1.now)) in
    IfOk-weaker c.keep-3.result _ _
    (λ _ kept bytes reading.
    let line = fed_then old c.keep-2.new.self c.end_line.new.self end (10 ∷ []) c.in_ok-keep.ensures c.in_ok-end_line.ensures.fed in
    let rest = fed_then c.end_line.new.self c.take.new.self new c.whole_lines.result.0.now c.whole_lines.result.1.now c.in_ok-take.ensures kept in
    rw parts (fed_reading old new bytes _ reading (fed_then old c.end_line.new.self new _ _ line rest)))
    c.keep-3.ensures

use Rattle.std.proofs.Common.{◌++◌, ◌∷◌, []}
use Rattle.mte_engine.proofs.CountedLines.{OnOk_then, last_piece, lines_more}
use Rattle.mte_engine.proofs.profiling.CountedTraceInput.take.Goals as goal

pub loop-line-preserved : goal.loop-line-preserved
loop-line-preserved c = λ bytes keeps.
    let line = c.in-Some.line.now in
    let so_far = c.loop-line.invariant bytes keeps in
    let fed_line = c.in_ok-feed_counted.ensures.counted (bytes ++ so_far.front) so_far.keeps in
    let fed_newline = c.in_ok-feed_counted-2.ensures.counted ((bytes ++ so_far.front) ++ line) fed_line in
    lines_more bytes c.args.piece.now c.loop-line.text.now line c.in-Some.after.now c.in_ok-text.text.now c.loop-line.self.reader
    c.count_rest.new.reader c.loop-line.self.profile c.count_rest.new.profile so_far c.in-Some.ensures.cut
    (c.in_ok-text.ensures.counted (((bytes ++ so_far.front) ++ line) ++ 10 ∷ []) fed_newline)

pub returns : goal.returns
returns c =
    OnOk_then c.feed_counted-2.result
    (λ counted bytes keeps.
    let so_far = c.loop-line.invariant bytes keeps in
    last_piece bytes c.args.piece.now c.loop-line.text.now c.loop-line.self.reader c.feed_counted-2.new.reader c.loop-line.self.profile
    c.feed_counted-2.new.profile so_far (counted (bytes ++ so_far.front) so_far.keeps))
    c.feed_counted-2.ensures.counted

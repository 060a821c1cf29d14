use Rattle.std.proofs.Common.{arith, sym, ◌∙◌}
use Rattle.line_text.proofs.Stops.{ends, goes_on, misses, stops}
use Rattle.line_text.proofs.line_reader.read_lines.Goals as goal

pub returns-in-Err-clause-read : goal.returns-in-Err-clause-read
returns-in-Err-clause-read g c =
    rw c.loop-read.invariant.rest
    (stops _ g.R.LineReader.own _ _ c.take.new.self _ _ c.in-Err.stop (rw c.in-Err.is at c.in-Some.ensures.line))

pub loop-read-preserved : goal.loop-read-preserved
loop-read-preserved g c = grind (arith, goes_on)

pub returns-in-Ok-clause-read : goal.returns-in-Ok-clause-read
returns-in-Ok-clause-read g c =
    let end = c.in_default.ensures.end in
    c.loop-read.invariant.rest ∙ ends _ g.R.LineReader.own _ _ _ _ end.0 (rw end.2 at (sym c.finish.ensures ∙ c.in-Ok.is))

pub returns-in-Err-finish-clause-read : goal.returns-in-Err-finish-clause-read
returns-in-Err-finish-clause-read g c =
    let end = c.in_default.ensures.end in
    c.loop-read.invariant.rest ∙ misses _ g.R.LineReader.own _ _ _ _ end.0 (rw end.2 at (sym c.finish.ensures ∙ c.in-Err-finish.is))

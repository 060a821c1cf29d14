use Rattle.std.proofs.Common.{◌≡◌, ◌+◌, ◌^◌, ◌<◌, length, drop}
use Rattle.line_text.specs.LineSteps.{read_lines}
use Rattle.line_text.proofs.line_reader.read_lines.Given as goal

abbrev pub invariant-loop-read : goal.invariant-loop-read
invariant-loop-read g l =
    let own = g.R.LineReader.own in record {
      rest : read_lines g.R.LineReader.steps l.first l.fn.reader (own l.fn.reader l.fn.lines)
          ≡ read_lines g.R.LineReader.steps l.number l.reader (own l.reader l.lines);
      left : drop (length (own l.fn.reader l.fn.lines)) l.fn.lines ≡ drop (length (own l.reader l.lines)) l.lines;
      few : l.number + g.R.LineReader.may_come l.reader < 2 ^ 32;
    }

abbrev pub decreases-loop-read : goal.decreases-loop-read
decreases-loop-read g l = length l.lines

use Rattle.history_count.proofs.TimelineLemmas.Pieces.{line_after, line_without, whole_before, whole_none}
use Rattle.history_count.proofs.timelines.taking.whole_lines.Goals as goal

pub returns-in-Some-clause-whole : goal.returns-in-Some-clause-whole
returns-in-Some-clause-whole c = rw c.split_at.ensures.front (whole_before c.args.text.now c.in-Some.end c.in-Some.ensures)

pub returns-in-Some-clause-rest : goal.returns-in-Some-clause-rest
returns-in-Some-clause-rest c = rw c.split_at.ensures.back (line_after c.args.text.now c.in-Some.end c.in-Some.ensures)

pub returns-in-None-clause-whole : goal.returns-in-None-clause-whole
returns-in-None-clause-whole c = whole_none

pub returns-in-None-clause-rest : goal.returns-in-None-clause-rest
returns-in-None-clause-rest c = line_without c.args.text.now c.in-None.ensures

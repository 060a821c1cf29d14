use Rattle.mte_engine.proofs.LeadingFitInput.{cut_after_line}
use Rattle.mte_engine.proofs.timeline_search.TimelineSearch.next_cut.Goals as goal

pub returns-then-eq : goal.returns-then-eq
returns-then-eq c =
    cut_after_line c.args.text.now c.split_at.result.1.now c.in_ok-line.line.now c.in_ok-line.rest.now c.min.result c.split_at.ensures.back
    c.in_ok-line.ensures.cut

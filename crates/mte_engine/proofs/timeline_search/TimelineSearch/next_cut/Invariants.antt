use Rattle.mte_engine.proofs.timeline_search.TimelineSearch.next_cut.Given as goal

abbrev pub decreases-loop-self : goal.decreases-loop-self
decreases-loop-self l = l.self.lines_left

use Rattle.mte_engine.proofs.border.+end_of_lines.Given as goal

abbrev pub decreases-end_of_lines : goal.decreases-end_of_lines
decreases-end_of_lines l = l.border

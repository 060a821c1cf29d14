use Rattle.std.proofs.{Common.{append_assoc, arith}, lemmas.List.{take_all}}
use Rattle.line_text.{proofs.LawLemmas.{prefix_of_prefix}}
use Rattle.potential_check.proofs.Appended.{rows_text-more}
use Rattle.potential_check.proofs.writing.append_rows.Goals as goal

pub loop-index-preserved : goal.loop-index-preserved
loop-index-preserved c = grind (arith, rows_text-more, append_assoc)

pub returns-in_err-append_line-clause-kept : goal.returns-in_err-append_line-clause-kept
returns-in_err-append_line-clause-kept c =
    prefix_of_prefix _ _ _ (record { after = _; is = c.loop-index.invariant }) c.append_line.ensures.kept

pub returns-clause-kept : goal.returns-clause-kept
returns-clause-kept c = record { after = _; is = c.loop-index.invariant }

pub returns-clause-written : goal.returns-clause-written
returns-clause-written c = rw (take_all c.loop-index.index c.args.rows.now (omega arith)) at c.loop-index.invariant

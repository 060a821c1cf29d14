use Rattle.std.{proofs.Common.{ap, take, ◌∙◌, ◌++◌}, specs.Fmt.{decimal}}
use Rattle.replay_theory.specs.Report.{report_line}
use Rattle.replay_core.proofs.Written.{tag_fault_line}
use Rattle.replay_core.proofs.report_line.write_tag_fault.Goals as goal

pub returns-clause-text : goal.returns-clause-text
unfolding report_line
returns-clause-text c =
    tag_fault_line _ _ _ _ _ _ _ _ _ _ _ _ _ _ _ _ c.put_next-end.ensures.text c.put-end.ensures.text
    (c.put_number-end.ensures.text ∙ ap (λ n. take c.put-end.result c.put-end.new.text ++ decimal n) c.from.ensures)
    c.put-end-2.ensures.text
    (c.put_number-end-2.ensures.text ∙ ap (λ n. take c.put-end-2.result c.put-end-2.new.text ++ decimal n) c.from-2.ensures)
    c.put-end-3.ensures.text
    (c.put_number-end-3.ensures.text ∙ ap (λ n. take c.put-end-3.result c.put-end-3.new.text ++ decimal n) c.from-3.ensures)
    c.put-end-4.ensures.text
    (c.put-end-5.ensures.text ∙ ap (λ word. take c.put-end-4.result c.put-end-4.new.text ++ word) c.kind_word.ensures.word)
    c.put.ensures.text

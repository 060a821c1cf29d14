use Rattle.mte_tool.proofs.Ends.{new_after, run_done, run_failed, run_without}
use Rattle.mte_tool.proofs.program.run_words.Goals as goal

pub returns-in-Done : goal.returns-in-Done
returns-in-Done g c =
    run_done _ _ c.in-Done.ensures.0 _ _ g.W.ByteSink.state _ _ _ _ c.in-Done.status c.requires c.in-Done.ensures.1 c.in-Done.ensures.2
    c.tell_waiting.ensures

pub returns-in-Failed : goal.returns-in-Failed
returns-in-Failed g c =
    run_failed _ _ c.in-Failed.ensures.0 _ _ g.W.ByteSink.state _ _ _ _ _ c.in-Failed.fault _ c.requires c.in-Failed.ensures.1
    c.in-Failed.ensures.2 c.tell_waiting.ensures c.fail.ensures

pub returns-in-Refused : goal.returns-in-Refused
returns-in-Refused g c =
    run_without _ _ _ g.W.ByteSink.state _ _ _ _ _ c.in-Refused.refusal _
    (new_after g.S.ByteSource.state _ _ g.W.ByteSink.state _ _ _ c.in-Refused.ensures.1 c.in-Refused.ensures.2 c.requires)
    c.in-Refused.ensures.0 c.tell_waiting.ensures c.refuse.ensures

use Rattle.mte_engine.proofs.TracePieces.{counts_more}
use Rattle.mte_engine.proofs.trace_counting.feed_counted.Goals as goal

pub returns-clause-counted : goal.returns-clause-counted
returns-clause-counted c = λ bytes keeps. rw c.count_out.ensures.state
    (counts_more bytes c.args.piece.now c.args.reader.now c.feed.new.reader c.args.profile.now c.count_out.new.profile keeps
    c.in_ok-feed.ensures.fed c.count_out.ensures.counted)

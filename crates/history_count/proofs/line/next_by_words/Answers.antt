use Rattle.history_count.proofs.RowEntries.{words-next}
use Rattle.history_count.proofs.line.next_by_words.Goals as goal

pub returns : goal.returns
returns c = words-next c.entry_in.result c.entry_in.new.counts _ _ _ _ _ c.in_ok-line.line.now c.in_ok-line.ensures.steps c.entry_in.ensures

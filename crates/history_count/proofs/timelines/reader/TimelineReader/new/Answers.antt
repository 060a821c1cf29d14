use Rattle.std.proofs.{Common.{◌≡◌, arith, false, refl}, lemmas.List.Elements.{All-nil}}
use Rattle.line_text.specs.Lines.{is_newline}
use Rattle.history_count.proofs.TimelineLemmas.Runs.{live_counts-none, run-none}
use Rattle.history_count.proofs.timelines.reader.TimelineReader.new.Goals as goal

pub invariant_of-result : goal.invariant_of-result
invariant_of-result c =
    rw (c.new.ensures.items, c.in_ok-zeros.ensures, c.new-2.ensures.items)
    (run-none, live_counts-none, All-nil (λ b. is_newline b ≡ false), omega arith)

pub returns : goal.returns
returns c = rw (c.new.ensures.items, c.new-2.ensures.items) refl

use Rattle.std.proofs.Common.{[], ◌∷◌, ◌++◌, ap, ◌∙◌}
use Rattle.trace_reader.{proofs.LawLemmas.{pieces_are_joined, pieces_have_few_events}, specs.Reading.{Reading, fed, nothing_read}}
use Rattle.mte_engine.proofs.CountedLines.{OnOk_both}
use Rattle.mte_engine.proofs.running.WholeTraceInput.take.Goals as goal

pub returns : goal.returns
returns c =
    OnOk_both c.feed.result
    (λ is seen bytes keeps.
    let piece = c.args.piece.now in
    let events = is ∙ ap (λ (r : Reading). fed r piece) keeps.events ∙ pieces_are_joined nothing_read bytes piece in
    record {
      events = events;
      counts = seen (λ few. keeps.counts) (rw events (pieces_have_few_events ((bytes ++ piece) ∷ [])));
    })
    c.feed.ensures.fed c.feed.ensures.seen

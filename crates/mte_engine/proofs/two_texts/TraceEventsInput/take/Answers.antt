use Rattle.std.proofs.{Common.{◌∙◌, ap}, lemmas.Result.{IfOk-weaker}}
use Rattle.trace_reader.{proofs.LawLemmas.{pieces_are_joined}, specs.Reading.{Reading, fed, nothing_read}}
use Rattle.mte_engine.proofs.two_texts.TraceEventsInput.take.Goals as goal

pub returns : goal.returns
returns c =
    IfOk-weaker c.feed.result _ _
    (λ _ is bytes keeps. is ∙ ap (λ (r : Reading). fed r c.args.piece.now) keeps ∙ pieces_are_joined nothing_read bytes c.args.piece.now)
    c.feed.ensures.fed

use Rattle.std.proofs.Common.{[], sym, ◌∙◌, ap}
use Rattle.trace_reader.specs.Reading.{Reading}
use Rattle.profile_count.proofs.LawLemmas.{added_requests_are_counted}
use Rattle.mte_engine.{proofs.TracePieces.{nothing_fed}, specs.Traces.{profile_of_events}}
use Rattle.mte_engine.proofs.running.RunEngineEngine.input.Goals as goal

pub returns : goal.returns
returns c = record {
  events = c.new-2.ensures ∙ sym nothing_fed;
  counts = c.in_ok-profile.ensures ∙ added_requests_are_counted []
      ∙ ap (λ (r : Reading). profile_of_events r.events) (sym c.new-2.ensures);
}

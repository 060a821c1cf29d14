-- From a tuned sheet to the headline, by the laws of the crates below.
use Rattle.std.proofs.Common.{◌≡◌, ℕ, false, List, ◌++◌, refl, sym, ◌∙◌}
use Rattle.class_table.specs.Tables.{rounding_loss}
use Rattle.replay_theory.{proofs.AccessAnswers.{accesses_are_answered}, proofs.Losses.{LosesAtMostItsWaste-run}, specs.Report.{report}}
use Rattle.replay_theory.specs.Losses.{ServesEach, counted_sizes, requested_sizes}
use Rattle.profile_count.proofs.LawLemmas.{serves_each_request, waste_is_the_sum_of_losses}
use Rattle.heap_theory.specs.{Config.{layout_for}, declared.config.Config.{Config}}
use Rattle.tuner_theory.specs.{Best.{IsCandidate}, Sheets.{Sheet}}
use Rattle.mte_engine.specs.{Replay.{report_on}, Run.{IsTunedRun, new_replay}, Traces.{profile_of_events}}
use Rattle.mte_engine.specs.declared.engine.Status.TheVariants.{Done}
use Rattle.class_tuner.specs.Tuned.{IsTuned}
use Rattle.trace_event.specs.declared.event.Event.{Event}
use Rattle.potential_check.specs.SheetText.{sheet_text}

pub headline : (limit step : ℕ) (config : Config) (events : List Event) (sheet : Sheet)
    → IsTuned (profile_of_events events).counts step limit false sheet
    → IsTunedRun limit step config events (record { text = sheet_text sheet ++ report_on config sheet.table events; status = Done })
unfolding report
headline limit step config events sheet tuned =
    let counts = (profile_of_events events).counts in
    let sizes = requested_sizes events in
    let best = tuned.made.canonical.best in
    let each : ServesEach sheet.table events = (serves_each_request sizes sheet.table).0 best.candidate.serving in
    let waste : sheet.cost ≡ rounding_loss sheet.table (counted_sizes events) =
    tuned.made.costs ∙ waste_is_the_sum_of_losses sizes sheet.table in
    let lost = LosesAtMostItsWaste-run (layout_for config sheet.table) config.seed config.quarantine events each in
    record {
      sheet = sheet;
      in_question = record { legal = best.candidate.legal; few = best.candidate.few; serves = each };
      waste = waste;
      least = λ other is.
          let candidate : IsCandidate counts step limit other =
          record { legal = is.legal; few = is.few; serving = (serves_each_request sizes other).1 is.serves } in
          rw (tuned.made.costs, ← waste_is_the_sum_of_losses sizes other) (best.least other candidate);
      tuned = tuned;
      written = refl;
      accesses = accesses_are_answered (new_replay config sheet.table) events;
      no_class = lost.no_class;
      loss = rw waste lost.loss;
      all_loss = λ none_exhausted none_refused. lost.all_loss none_exhausted none_refused ∙ sym waste;
    }

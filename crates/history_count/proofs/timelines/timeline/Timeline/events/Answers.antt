use Rattle.std.proofs.Common.{List, subst}
use Rattle.history_count.{proofs.TimelineLemmas.Runs.{timeline_of_run}, specs.Timelines.Runs.{IsRun}}
use Rattle.tuner_theory.specs.declared.size_event.SizeEvent.{SizeEvent}
use Rattle.history_count.proofs.timelines.timeline.Timeline.events.Goals as goal

pub returns-clause-timeline : goal.returns-clause-timeline
returns-clause-timeline c =
    let Good : List SizeEvent → Type 0 = IsRun in
    timeline_of_run c.args.self.now (subst Good c.self.view_is c.self.invariant)

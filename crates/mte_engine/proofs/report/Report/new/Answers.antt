use Rattle.std.proofs.{Common.{◌≡◌, ◌++◌, length, take, arith, ap, ◌∙◌, List, ℕ}, lemmas.List.{with_items_is}}
use Rattle.replay_core.specs.ReplayState.{Stored}
use Rattle.heap_theory.specs.Config.{layout_for}
use Rattle.mte_engine.{proofs.Reporting.{first_events, text_kept, whole_report}, specs.ReportFrom.{report_from, report_unless}}
use Rattle.mte_engine.proofs.report.Report.new.Goals as goal

pub fill-filled-requires-clause-few : goal.fill-filled-requires-clause-few
fill-filled-requires-clause-few c = omega (arith, c.requires.few, first_events _ _ _ _ c.in_ok-replay.ensures)

pub invariant_of-result : goal.invariant_of-result
invariant_of-result c = record {
  in_filled = omega arith;
  in_buffer = omega (arith, c.fill-filled.ensures.end, c.deref_mut.ensures.len);
  room = omega (arith, c.in_ok-buffer.ensures.len);
  few = c.fill-filled.ensures.few;
  ready = λ empty. c.fill-filled.ensures.some (omega (arith, empty));
}

pub returns : goal.returns
returns c =
    let report =
    whole_report (layout_for c.args.config c.args.table.now) c.args.config.seed c.args.config.quarantine c.args.reader.events in
    let text = c.args.text.items in
    let events = c.args.reader.events in
    let from = c.len-from.result in
    let filled = c.fill-filled.new.text in
    let same : from ≡ length text = omega (arith, c.len-from.ensures, c.args.text.ok.0) in
    ap (λ (t : List ℕ). take c.fill-filled.result.0 t
    ++ report_unless c.fill-filled.result.1 c.fill-filled.new.replay c.fill-filled.new.reader.events)
    (with_items_is c.in_ok-buffer.buffer filled (c.fill-filled.auto.text ∙ c.deref_mut.ensures.len))
    ∙ c.fill-filled.ensures.report
    ∙ ap (λ (t : List ℕ). take from t ++ report_from c.in_ok-replay.replay events) (c.deref_mut.ensures.value ∙ c.in_ok-buffer.ensures.items)
    ∙ ap (λ (t : List ℕ). t ++ report_from c.in_ok-replay.replay events) (text_kept text _ from same)
    ∙ ap (λ (s : Stored). text ++ report_from s events) c.in_ok-replay.ensures
    ∙ ap (λ (t : List ℕ). text ++ t) report

-- The report that is still to come, as events are replayed and their lines are appended to a buffer.
use Rattle.std.proofs.Common.{◌≡◌, ◌≤◌, ℕ, ◌+◌, ◌-◌, List, [], ◌∷◌, ◌++◌, length, take, drop, refl, sym, ap, ◌∙◌, append_assoc, append-nil}
use Rattle.std.proofs.{Common.{arith}, Math.Seq.{take-append_seam}, lemmas.List.{drop-take}}
use Rattle.replay_theory.specs.{Replay.{answer_of}, Report.{report, report_line, totals_text}, Totals.{totals_after}}
use Rattle.trace_event.specs.declared.event.Event.{Event}
use Rattle.replay_core.proofs.LawLemmas.{lines_of_none, lines_of_one_more, report_is_lines_and_totals, stored_of_none, stored_of_one_more}
use Rattle.replay_core.specs.ReplayState.{Stored, first_stored, lines_of, stored_after, stored_of}
use Rattle.class_table.specs.Layout.{Partition}
use Rattle.mte_engine.specs.ReportFrom.{report_from}

-- one event was replayed, and its line appended
pub reported_more : (before after line : List ℕ) (stored stored' : Stored) (events events' : List Event) (event : Event) →
    events ≡ event ∷ events'
    → line ≡ report_line (stored.totals.events + 1) (answer_of stored.replay event) → stored' ≡ stored_after stored event →
    after ≡ before ++ line
    → after ++ report_from stored' events' ≡ before ++ report_from stored events
unfolding report_from
reported_more before after line stored stored' events events' event es is_line is_stored is_after = grind (arith, append_assoc)

-- all events were replayed, and the totals appended
pub reported_all : (before after : List ℕ) (stored : Stored) (events : List Event) → events ≡ [] →
    after ≡ before ++ totals_text stored.totals
    → after ++ [] ≡ before ++ report_from stored events
unfolding report_from
reported_all before after stored events none is_after = grind (arith, append-nil)

-- nothing has been counted at first,
pub first_events : (stored : Stored) (layout : Partition) (seed quarantine : ℕ) → stored ≡ first_stored layout seed quarantine →
    stored.totals.events ≡ 0
unfolding first_stored
first_events stored layout seed quarantine is = ap (λ (s : Stored). s.totals.events) is

-- and one event more is counted by each step
pub events_after : (stored : Stored) (event : Event) → (stored_after stored event).totals.events ≡ stored.totals.events + 1
unfolding stored_after totals_after
events_after stored event = refl

-- From a new replay on, the lines and the totals are the report.
module _ (layout : Partition) (seed quarantine : ℕ) where
  report_goes_on : (before rest : List Event)
      → lines_of layout seed quarantine before ++ report_from (stored_of layout seed quarantine before) rest
      ≡ report layout seed quarantine (before ++ rest)
  unfolding report_from
  report_goes_on before [] = grind (arith, report_is_lines_and_totals, append-nil)
  report_goes_on before (event ∷ rest) =
      let stored = stored_of layout seed quarantine before in
      let line = report_line (stored.totals.events + 1) (answer_of stored.replay event) in
      sym (append_assoc (lines_of layout seed quarantine before) line (report_from (stored_after stored event) rest))
      ∙ ap (λ (t : List ℕ). t ++ report_from (stored_after stored event) rest) (sym (lines_of_one_more layout seed quarantine before event))
      ∙ ap (λ (s : Stored). lines_of layout seed quarantine (before ++ event ∷ []) ++ report_from s rest)
      (sym (stored_of_one_more layout seed quarantine before event))
      ∙ report_goes_on (before ++ event ∷ []) rest
      ∙ ap (report layout seed quarantine) (append_assoc before (event ∷ []) rest)

  pub whole_report : (events : List Event) → report_from (first_stored layout seed quarantine) events ≡ report layout seed quarantine events
  whole_report events =
      ap (λ (s : Stored). report_from s events) (sym (stored_of_none layout seed quarantine))
      ∙ ap (λ (t : List ℕ). t ++ report_from (stored_of layout seed quarantine []) events) (sym (lines_of_none layout seed quarantine))
      ∙ report_goes_on [] events

-- what is ready of a buffer, of which some is filled and some was written
pub part_ready : (items : List ℕ) (written filled : ℕ) → written ≤ filled →
    take (filled - written) (drop written items) ≡ drop written (take filled items)
part_ready items written filled inside =
    let whole : written + (filled - written) ≡ filled = omega arith in
    sym (drop-take written (filled - written) items) ∙ ap (λ n. drop written (take n items)) whole

-- the text of m bytes that a buffer begins with
pub text_kept : (text more : List ℕ) (m : ℕ) → m ≡ length text → take m (text ++ more) ≡ text
text_kept text more m is = ap (λ k. take k (text ++ more)) is ∙ take-append_seam text more

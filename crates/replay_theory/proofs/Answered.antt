-- What accesses and events answer, in a trace of one event more.
use Rattle.std.proofs.Common.{◌≡◌, ℕ, ◌+◌, ◌∷◌, ◌++◌, [], List, length, refl, ap, ◌∙◌, arith, append_assoc, append-nil, fold}
use Rattle.std.proofs.lemmas.{List.{length-append}, List.Sums.{fold_push, sum_by_push}}
use Rattle.trace_event.specs.declared.event.Event.{Event}
use Rattle.replay_theory.specs.Replay.{Replay, Answer, replay_after, answer_of, answers, replay_of, first_replay}
use Rattle.replay_theory.specs.{Report.{report_line, report_lines}, Run.{Run, run_after, first_run, run}}
use Rattle.replay_theory.specs.Totals.{totals_of, totals_after, no_totals}
use Rattle.class_table.specs.Layout.{Partition}

-- ---- one event more

pub replay_of-push : (replay : Replay) (events : List Event) (event : Event) → replay_of replay (events ++ event ∷ [])
    ≡ replay_after (replay_of replay events) event
unfolding replay_of
replay_of-push r events e = fold_push replay_after r events e

pub answers-push : (replay : Replay) (events : List Event) (event : Event) → answers replay (events ++ event ∷ [])
    ≡ answers replay events ++ answer_of (replay_of replay events) event ∷ []
unfolding answers replay_of
answers-push r [] e = refl
answers-push r (event ∷ events) e = ap (λ rest. answer_of r event ∷ rest) (answers-push (replay_after r event) events e)

pub length-answers : (replay : Replay) (events : List Event) → length (answers replay events) ≡ length events
unfolding answers
length-answers r [] = refl
length-answers r (e ∷ events) = omega (arith, length-answers (replay_after r e) events)

pub report_lines-push : (number : ℕ) (given : List Answer) (answer : Answer) → report_lines number (given ++ answer ∷ [])
    ≡ report_lines number given ++ report_line (number + length given) answer
unfolding report_lines
report_lines-push number [] answer = append-nil (report_line number answer) ∙ ap (λ n. report_line n answer) (omega arith)
report_lines-push number (first ∷ rest) answer = grind (arith, report_lines-push (number + 1) rest answer, append_assoc)

-- ---- the stored part of a run

stored_of : (w : Run) (events : List Event) → (fold run_after w events).replay ≡ replay_of w.replay events
unfolding run_after replay_of
stored_of w [] = refl
stored_of w (e ∷ events) = stored_of (run_after w e) events

pub stored_part : (layout : Partition) (seed quarantine : ℕ) (events : List Event) → (run layout seed quarantine events).replay
    ≡ replay_of (first_replay layout seed quarantine) events
unfolding run first_run
stored_part layout seed quarantine events = stored_of (first_run layout seed quarantine) events

-- ---- totals

pub totals_of-none : (classes : List ℕ) → totals_of classes [] ≡ no_totals
unfolding totals_of
totals_of-none classes = refl

pub totals_of-push : (classes : List ℕ) (happened : List (Event × Answer)) (p : Event × Answer) → totals_of classes (happened ++ p ∷ [])
    ≡ totals_after classes (totals_of classes happened) p
unfolding totals_of totals_after
totals_of-push classes happened p = grind (arith, length-append, sum_by_push)

-- What is stored of the run with one more event follows from the event and from what was stored before it.
use Rattle.std.proofs.Common.{◌≡◌, ℕ, ◌+◌, List, [], ◌∷◌, ◌++◌, length, refl, sym, ap, ◌∙◌, arith, zip}
use Rattle.class_table.specs.Layout.{Partition}
use Rattle.trace_event.specs.declared.event.Event.{Event}
use Rattle.replay_theory.{proofs.LayoutStays.{layout_of_run}, specs.Replay.{Replay, Answer, answer_of, first_replay, answers, replay_of}}
use Rattle.replay_theory.specs.{Report.{report, report_line, report_lines, totals_text}, Totals.{totals_of, totals_after}}
use Rattle.replay_core.specs.ReplayState.{first_stored, lines_of, stored_after, stored_of}
use Rattle.replay_core.proofs.TheoryLemmas as laws

stored_replay : (layout : Partition) (seed quarantine : ℕ) (events : List Event) →
    replay_of (first_replay layout seed quarantine) events ≡ (stored_of layout seed quarantine events).replay
unfolding stored_of
stored_replay layout seed quarantine events = refl

zip-push : {A B : Type 0} (xs : List A) (ys : List B) (x : A) (y : B) → length ys ≡ length xs →
    zip (xs ++ x ∷ []) (ys ++ y ∷ []) ≡ zip xs ys ++ (x, y) ∷ []
zip-push [] [] x y long = refl
zip-push [] (b ∷ ys) x y long = absurd (omega arith)
zip-push (a ∷ xs) [] x y long = absurd (omega arith)
zip-push (a ∷ xs) (b ∷ ys) x y long = ap (λ rest. (a, b) ∷ rest) (zip-push xs ys x y (omega arith))

pub stored_of_none : (layout : Partition) (seed quarantine : ℕ) → stored_of layout seed quarantine [] ≡ first_stored layout seed quarantine
unfolding stored_of first_stored replay_of answers
stored_of_none layout seed quarantine =
    λ i. record { replay = first_replay layout seed quarantine; totals = laws.no_totals_first layout.classes i }

pub stored_of_one_more : (layout : Partition) (seed quarantine : ℕ) (events : List Event) (event : Event) →
    stored_of layout seed quarantine (events ++ event ∷ []) ≡ stored_after (stored_of layout seed quarantine events) event
unfolding stored_of stored_after
stored_of_one_more layout seed quarantine events e =
    let first : Replay = first_replay layout seed quarantine in
    let given : List Answer = answers first events in
    let answer : Answer = answer_of (replay_of first events) e in
    let happened : zip (events ++ e ∷ []) (answers first (events ++ e ∷ [])) ≡ zip events given ++ (e, answer) ∷ [] =
    ap (λ all. zip (events ++ e ∷ []) all) (laws.one_answer_more first events e)
    ∙ zip-push events given e answer (laws.as_many_answers first events) in
    let totals = ap (λ all. totals_of layout.classes all) happened ∙ laws.totals_one_more layout.classes (zip events given) (e, answer)
    ∙ ap (λ (l : Partition). totals_after l.classes (totals_of layout.classes (zip events given)) (e, answer))
    (sym (layout_of_run layout seed quarantine events)) in
    λ i. record { replay = laws.one_step_more first events e i; totals = totals i }

-- ---- the report

length-zip : {A B : Type 0} (xs : List A) (ys : List B) → length ys ≡ length xs → length (zip xs ys) ≡ length xs
length-zip [] ys long = refl
length-zip (x ∷ xs) [] long = absurd (omega arith)
length-zip (x ∷ xs) (y ∷ ys) long = omega (arith, length-zip xs ys (omega arith))

pub steps_are_events : (layout : Partition) (seed quarantine : ℕ) (events : List Event) →
    (stored_of layout seed quarantine events).totals.events ≡ length events
unfolding stored_of totals_of
steps_are_events layout seed quarantine events =
    length-zip events (answers (first_replay layout seed quarantine) events)
    (laws.as_many_answers (first_replay layout seed quarantine) events)

pub lines_of_none : (layout : Partition) (seed quarantine : ℕ) → lines_of layout seed quarantine [] ≡ []
unfolding lines_of answers report_lines
lines_of_none layout seed quarantine = refl

pub lines_of_one_more : (layout : Partition) (seed quarantine : ℕ) (events : List Event) (event : Event) →
    let before = stored_of layout seed quarantine events in lines_of layout seed quarantine (events ++ event ∷ [])
    ≡ lines_of layout seed quarantine events ++ report_line (before.totals.events + 1) (answer_of before.replay event)
unfolding lines_of
lines_of_one_more layout seed quarantine events e =
    let first : Replay = first_replay layout seed quarantine in
    let given : List Answer = answers first events in
    let number : 1 + length given ≡ (stored_of layout seed quarantine events).totals.events + 1 =
    omega (arith, steps_are_events layout seed quarantine events, laws.as_many_answers first events) in
    ap (report_lines 1) (laws.one_answer_more first events e) ∙ laws.one_line_more 1 given (answer_of (replay_of first events) e)
    ∙ ap (λ n. report_lines 1 given ++ report_line n (answer_of (replay_of first events) e)) number
    ∙ ap (λ r. report_lines 1 given ++ report_line ((stored_of layout seed quarantine events).totals.events + 1) (answer_of r e))
    (stored_replay layout seed quarantine events)

pub report_is_lines_and_totals : (layout : Partition) (seed quarantine : ℕ) (events : List Event) → report layout seed quarantine events
    ≡ lines_of layout seed quarantine events ++ totals_text (stored_of layout seed quarantine events).totals
unfolding report lines_of stored_of
report_is_lines_and_totals layout seed quarantine events = refl

-- What the engines over traces keep, piece by piece and at the end, by the laws of a trace in pieces.
use Rattle.std.proofs.Common.{◌≡◌, ℕ, ◌+◌, ◌≤◌, List, [], ◌∷◌, ◌++◌, length, Option, None, Ok, Err, refl, sym, ap, ◌∙◌, arith}
use Rattle.std.proofs.{Common.{append-nil}, lemmas.List.{length-append}, lemmas.List.Elements.{filter_map-append}}
use Rattle.replay_theory.specs.{Losses.{requested_sizes}}
use Rattle.trace_event.specs.declared.event.Event.{Event}
use Rattle.profile_count.{proofs.LawLemmas.{added_requests_are_counted}, specs.Counts.{nothing_counted}, specs.ProfileText.{profile_text}}
use Rattle.profile_count.specs.Requests.{profile_of_sizes}
use Rattle.trace_reader.proofs.LawLemmas.{events_are_few, fed_after_events, finished_after_events, one_piece_is_the_text, pieces_are_joined}
use Rattle.trace_reader.{proofs.LawLemmas.{pieces_have_few_events}, specs.Reading.State.{Finished}}
use Rattle.trace_reader.specs.Reading.{Reading, State, added, cut, ended_state, fed, finished, nothing_read, whole_reading}
use Rattle.trace_reader.specs.{TraceText.{Trace, trace_from, trace_of}}
use Rattle.trace_reader.specs.declared.fault.TraceFault.{TraceFault}
use Rattle.tuner_theory.specs.Profiles.{Profile as Counted}
use Rattle.mte_engine.{proofs.Counting.{length-requested_sizes}, specs.Outcome.{GivesFault}, specs.Profile.{ProfileAnswers, profile_answer}}
use Rattle.mte_engine.specs.{Traces.{HasEnded, KeepsCounts, profile_of_events, trace_part}, declared.engine.Status.TheVariants.{Done}}
use Rattle.mte_engine.specs.declared.fault.{AnswerError.{AnswerError}, AnswerError.TheVariants.{Input}}
use Rattle.mte_engine.specs.declared.fault.InputFault.{InputFault}

-- nothing was taken yet
pub nothing_fed : fed nothing_read [] ≡ nothing_read
unfolding fed cut trace_from
nothing_fed = refl

pub nothing_counted_yet : KeepsCounts nothing_read nothing_counted []
nothing_counted_yet = record {
  state = ap (λ (r : Reading). record { events = []; state = r.state }) (sym nothing_fed);
  counts = added_requests_are_counted [] ∙ ap (λ (r : Reading). profile_of_events r.events) (sym nothing_fed);
}

module _ (bytes piece : List ℕ) where
  abbrev before : Reading
  before = fed nothing_read bytes

  abbrev after : Reading
  after = fed nothing_read (bytes ++ piece)

  -- the reading without the events that were taken out
  abbrev emptied : Reading
  emptied = record { events = []; state = before.state }

  split : after ≡ added before.events (fed emptied piece)
  split =
      let whole : before ≡ added before.events emptied =
      ap (λ (e : List Event). record { events = e; state = before.state }) (sym (append-nil before.events)) in
      sym (pieces_are_joined nothing_read bytes piece) ∙ ap (λ (r : Reading). fed r piece) whole
      ∙ fed_after_events before.events emptied piece

  -- one more piece was fed, and its events were counted and taken out
  pub counts_more : (reader fed_reader : Reading) (profile profile' : Counted) → KeepsCounts reader profile bytes →
      fed_reader ≡ fed reader piece
      → ((sizes : List ℕ) → length sizes + length fed_reader.events ≤ 1000000 → profile ≡ profile_of_sizes sizes
      → profile' ≡ profile_of_sizes (sizes ++ requested_sizes fed_reader.events))
      → KeepsCounts (record { events = []; state = fed_reader.state }) profile' (bytes ++ piece)
  counts_more reader fed_reader profile profile' keeps is_fed counted =
      let is : fed_reader ≡ fed emptied piece = is_fed ∙ ap (λ (r : Reading). fed r piece) keeps.state in
      let all : after ≡ added before.events fed_reader = split ∙ ap (added before.events) (sym is) in
      let events : after.events ≡ before.events ++ fed_reader.events = ap (λ (r : Reading). r.events) all in
      let fits : length before.events + length fed_reader.events ≤ 1000000 =
      omega (arith, pieces_have_few_events ((bytes ++ piece) ∷ []), ap length events, length-append before.events fed_reader.events) in
      grind (arith, length-requested_sizes, filter_map-append)

-- ---- the end of a trace

no_fault : (fault : Option (ℕ × TraceFault)) → ended_state fault ≡ Finished → fault ≡ None
no_fault fault e = grind arith

-- a trace that ended without a fault is its events
pub trace_ends : (lines : ℕ) (trace : Trace) (state : State) → state ≡ ended_state trace.fault → HasEnded lines state (Ok tt) →
    trace_part lines trace ≡ Ok trace.events
trace_ends lines trace state is ended = rw (no_fault trace.fault (sym is ∙ ended)) refl

-- and one that ended at a fault is that fault
pub trace_refused : (lines : ℕ) (trace : Trace) (state : State) (refused : InputFault) → state ≡ ended_state trace.fault
    → HasEnded lines state (Err (Input refused)) → trace_part lines trace ≡ Err refused
trace_refused lines trace state refused is h5 = grind arith

module _ (bytes : List ℕ) where
  -- the events of the pieces were taken out
  abbrev left : Reading
  left = record { events = []; state = (fed nothing_read bytes).state }

  pub finished_rest : added (fed nothing_read bytes).events (finished left) ≡ whole_reading (trace_of bytes)
  finished_rest =
      let read = fed nothing_read bytes in
      let same : read ≡ added read.events left =
      ap (λ (e : List Event). record { events = e; state = read.state }) (sym (append-nil read.events)) in
      sym (finished_after_events read.events left) ∙ ap finished (sym same) ∙ one_piece_is_the_text bytes

  -- ---- the answer of `profile`

  state_of_rest : (reader : Reading) (profile : Counted) → KeepsCounts reader profile bytes →
      (finished reader).state ≡ ended_state (trace_of bytes).fault
  state_of_rest reader profile keeps = ap (λ (r : Reading). (finished r).state) keeps.state ∙ ap (λ (r : Reading). r.state) finished_rest

  pub profile_refused : (reader : Reading) (profile : Counted) (error : AnswerError) → KeepsCounts reader profile bytes
      → HasEnded 0 (finished reader).state (Err error) → GivesFault (ProfileAnswers bytes) error
  unfolding profile_answer
  profile_refused reader profile error keeps ended = grind (arith, state_of_rest)

  pub profile_written : (reader : Reading) (profile profile' : Counted) (text : List ℕ) → KeepsCounts reader profile bytes
      → HasEnded 0 (finished reader).state (Ok tt)
      → ((sizes : List ℕ) → length sizes + length (finished reader).events ≤ 1000000 → profile ≡ profile_of_sizes sizes
      → profile' ≡ profile_of_sizes (sizes ++ requested_sizes (finished reader).events))
      → text ≡ profile_text profile' → ProfileAnswers bytes (Ok (record { text = text; status = Done }))
  unfolding profile_answer
  profile_written reader profile profile' text keeps ended counted is = grind (arith, finished_rest, events_are_few, length-append, length-requested_sizes, filter_map-append)

-- Lines that are read and counted one by one, with no event in between.
use Rattle.std.proofs.Common.{◌≡◌, ℕ, ◌<◌, Result, OnOk, List, [], ◌∷◌, ◌++◌, length, sym, ap, ◌∙◌, arith, append_assoc}
use Rattle.replay_theory.specs.Losses.{requested_sizes}
use Rattle.trace_event.specs.declared.event.Event.{Event}
use Rattle.line_text.specs.Lines.{ended}
use Rattle.profile_count.specs.Requests.{profile_of_sizes}
use Rattle.trace_reader.specs.{Reading.{Reading, fed}, TraceLine.{event_line}}
use Rattle.tuner_theory.specs.Profiles.{Profile as Counted}
use Rattle.mte_engine.{proofs.TracePieces.{counts_more}, specs.Traces.{CountsFront, KeepsCounts}}

-- one more line was read, and its event was counted
pub one_line_more : (bytes text rest after : List ℕ) (reader reader' : Reading) (profile profile' : Counted) (event : Event)
    → CountsFront bytes text reader profile rest → rest ≡ event_line event ++ 10 ∷ after
    → record { events = reader.events ++ event ∷ []; state = reader'.state } ≡ fed reader (ended (event_line event))
    → reader'.events ≡ reader.events
    → ((sizes : List ℕ) → length sizes < 1000000000 → profile ≡ profile_of_sizes sizes
    → profile' ≡ profile_of_sizes (sizes ++ requested_sizes (event ∷ [])))
    → CountsFront bytes text reader' profile' after
one_line_more bytes text rest after reader reader' profile profile' event so_far cut fed_is same counted =
    let line : List ℕ = ended (event_line event) in
    let none : reader.events ≡ [] = ap (λ (r : Reading). r.events) so_far.keeps.state in
    let one : Reading = record { events = event ∷ []; state = reader'.state } in
    let is_fed : one ≡ fed reader line =
    ap (λ (es : List Event). record { events = es ++ event ∷ []; state = reader'.state }) (sym none) ∙ fed_is in
    let more =
    counts_more (bytes ++ so_far.front) line reader one profile profile' so_far.keeps is_fed
    (λ sizes few is. counted sizes (omega (arith, few)) is) in
    grind (arith, append_assoc)

-- a line that was fed, its newline, and lines after it
pub lines_more : (bytes text rest line after left : List ℕ) (reader last : Reading) (profile counts : Counted)
    → (so_far : CountsFront bytes text reader profile rest) → rest ≡ line ++ 10 ∷ after
    → CountsFront (((bytes ++ so_far.front) ++ line) ++ 10 ∷ []) after last counts left
    → CountsFront bytes text last counts left
lines_more bytes text rest line after left reader last profile counts so_far cut more = grind (arith, append_assoc)

-- and the text after them
pub last_piece : (bytes text rest : List ℕ) (reader last : Reading) (profile counts : Counted)
    → (so_far : CountsFront bytes text reader profile rest) → KeepsCounts last counts ((bytes ++ so_far.front) ++ rest)
    → KeepsCounts last counts (bytes ++ text)
last_piece bytes text rest reader last profile counts so_far more = grind (arith, append_assoc)

pub OnOk_then : {A E P Q : Type 0} (r : Result A E) → (P → Q) → OnOk r P → OnOk r Q
OnOk_then r more holds = grind arith

pub OnOk_both : {A E P P' Q : Type 0} (r : Result A E) → (P → P' → Q) → OnOk r P → OnOk r P' → OnOk r Q
OnOk_both r more holds holds' = grind arith

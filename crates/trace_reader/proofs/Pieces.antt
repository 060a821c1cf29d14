-- A text in pieces is the whole text.
use Rattle.std.proofs.Common.{◌≡◌, ℕ, suc, List, [], ◌∷◌, ◌++◌, length, Option, refl, sym}
use Rattle.std.proofs.{Common.{ap, ◌∙◌, arith, append_assoc, append-nil, ◌≤◌}, lemmas.List.{length-append}}
use Rattle.std.specs.List.{concat}
use Rattle.trace_reader.proofs.{Cutting.{last_lines, lines-cut}, Feeding.{pieces_are_joined}, LineRanges.{events_are_few}}
use Rattle.trace_reader.{proofs.Reaching.{IsPrefix-finished}}
use Rattle.trace_reader.proofs.Traces.{followed_by, trace_from-append, trace_from-long, trace_from-none, trace_from-one}
use Rattle.trace_reader.specs.Reading.{state_after, whole_reading, Cut, Reading, added, cut, fed, fed_all, finished, finished_in}
use Rattle.trace_reader.specs.{Reading.{nothing_read}, TraceText.{Trace, trace_from, trace_of}}
use Rattle.trace_reader.specs.declared.fault.{TraceFault.{TraceFault}}

fed_all-fed : (r : Reading) (a : List ℕ) (pieces : List (List ℕ)) → fed_all (fed r a) pieces ≡ fed r (a ++ concat pieces)
fed_all-fed r a [] = ap (fed r) (sym (append-nil a))
fed_all-fed r a (piece ∷ pieces) =
    ap (λ (x : Reading). fed_all x pieces) (pieces_are_joined r a piece) ∙ fed_all-fed r (a ++ piece) pieces
    ∙ ap (fed r) (append_assoc a piece (concat pieces))

fed_all-concat : (pieces : List (List ℕ)) → fed_all nothing_read pieces ≡ fed nothing_read (concat pieces)
unfolding fed cut trace_from
fed_all-concat [] = refl
fed_all-concat (piece ∷ pieces) = fed_all-fed nothing_read piece pieces

-- the end after a whole text
at_end : (n : ℕ) (c : Cut) (t : Trace) (fault : Option (ℕ × TraceFault)) → t.fault ≡ fault
    → added t.events (finished_in (state_after n c.unfinished fault))
    ≡ whole_reading (followed_by fault t.events (trace_from (suc n) (last_lines c.unfinished)))
at_end n c t fault is = grind (arith, append-nil, trace_from-long, trace_from-none, trace_from-one)

-- a text in one piece
pub one_piece_is_the_text : (text : List ℕ) → finished (fed nothing_read text) ≡ whole_reading (trace_of text)
unfolding fed finished
one_piece_is_the_text text = grind (arith, append-nil, trace_from-long, trace_from-one, lines-cut, trace_from-append)

pub pieces_are_the_text : (pieces : List (List ℕ)) → finished (fed_all nothing_read pieces) ≡ whole_reading (trace_of (concat pieces))
pieces_are_the_text pieces = ap finished (fed_all-concat pieces) ∙ one_piece_is_the_text (concat pieces)

pub pieces_have_few_events : (pieces : List (List ℕ)) → length (fed_all nothing_read pieces).events ≤ 1000000
pieces_have_few_events pieces =
    let all = fed_all nothing_read pieces in
    let more = IsPrefix-finished all in
    let same : (finished all).events ≡ (trace_of (concat pieces)).events = ap (λ (r : Reading). r.events) (pieces_are_the_text pieces) in
    omega (arith, events_are_few (concat pieces), ap length (sym more.is ∙ same), length-append all.events more.after)

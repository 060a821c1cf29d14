-- From a line to the event that is read from it: it is in its ranges, and the line is its line.
use Rattle.std.proofs.Common.{◌≡◌, ℕ, ◌<◌, ◌≤◌, ◌^◌, Bool, true, false, cond, ltb, List, [], ◌∷◌, length, Option, Some}
use Rattle.std.proofs.{Common.{Result, Ok, Err, IfOk, refl, sym, ap, ◌∙◌, arith, nat_abs, codes}, lemmas.Bool.{leb-true}}
use Rattle.std.{proofs.lemmas.Slice.Eq.{bytes_eq-Decides}, specs.Fmt.{decimal, signed_decimal}, specs.Str.{bytes_eq}}
use Rattle.line_text.{proofs.LawLemmas.{hex_is_spelled, line_is_its_words, number_is_spelled, signed_is_spelled}}
use Rattle.line_text.specs.{Lines.{words, line_of}}
use Rattle.trace_event.specs.{Ranges.{IsInRange}, declared.event.Event.{Event}}
use Rattle.trace_reader.proofs.{LineRanges.{IfOk-and_then, both_pass}, Offsets.{fits_signed}}
use Rattle.trace_reader.specs.TraceLine.{ranged, number_from, variable_of, size_of, offset_of, len_of, request_of, free_of}
use Rattle.trace_reader.specs.TraceLine.{load_of, store_of, move_of, event_line, event_named, event_of_words}
use Rattle.trace_reader.specs.{TraceLine.{event_of_line, event_words}, declared.fault.TraceFault.{TraceFault}}
use Rattle.trace_reader.specs.declared.fault.TraceFault.TheVariants.{LineTooLong, TooManyEvents}

-- ---- words

-- what was read and passes the test
IfOk-ranged_of : {A : Type 0} (P : A → Type 0) (test : A → Bool) (o : Option A) → ((x : A) → o ≡ Some x → test x ≡ true → P x) →
    IfOk (ranged test o) P
IfOk-ranged_of P test o passed = grind arith

spelled_number : (low high : ℕ) → high < 2 ^ 64 → (word : List ℕ) →
    IfOk (number_from low high word) (λ n. (low ≤ n) × (n ≤ high) × (word ≡ decimal n))
spelled_number low high small word = grind (arith, IfOk-ranged_of, both_pass, leb-true, number_is_spelled)

spelled_offset : (word : List ℕ) → IfOk (offset_of word) (λ z. (nat_abs z ≤ 1048576) × (word ≡ signed_decimal z))
spelled_offset word = grind (arith, IfOk-ranged_of, leb-true, signed_is_spelled, fits_signed)

-- ---- the words after a name

-- the event is in its ranges, and these are its words
abbrev IsReadFrom : List (List ℕ) → Event → Type 0
IsReadFrom ws e = IsInRange e × (ws ≡ event_words e)

read_request : (name : List ℕ) (event : ℕ → ℕ → Event)
    → ((v n : ℕ) → v ≤ 1023 → n ≤ 2147483647 → IsReadFrom (name ∷ decimal v ∷ decimal n ∷ []) (event v n))
    → (ws : List (List ℕ)) → IfOk (request_of event ws) (IsReadFrom (name ∷ ws))
read_request name event is [] = tt
read_request name event is (v ∷ []) = tt
read_request name event is (v ∷ n ∷ []) =
    let Q = IsReadFrom (name ∷ v ∷ n ∷ []) in
    IfOk-and_then _ Q (variable_of v) _ (spelled_number 0 1023 (omega arith) v)
    (λ x x_is. IfOk-and_then _ Q (size_of n) _ (spelled_number 0 2147483647 (omega arith) n)
    (λ y y_is. rw (x_is.2, y_is.2) (is x y x_is.1 y_is.1)))
read_request name event is (v ∷ n ∷ other ∷ ws) = tt

read_free : (ws : List (List ℕ)) → IfOk (free_of ws) (IsReadFrom (codes "free" ∷ ws))
read_free [] = tt
read_free (v ∷ []) =
    IfOk-and_then _ (IsReadFrom (codes "free" ∷ v ∷ [])) (variable_of v) _ (spelled_number 0 1023 (omega arith) v)
    (λ x x_is. rw x_is.2 (x_is.1, refl))
read_free (v ∷ other ∷ ws) = tt

read_load : (ws : List (List ℕ)) → IfOk (load_of ws) (IsReadFrom (codes "load" ∷ ws))
read_load [] = tt
read_load (v ∷ []) = tt
read_load (v ∷ off ∷ []) = tt
read_load (v ∷ off ∷ len ∷ []) =
    let Q = IsReadFrom (codes "load" ∷ v ∷ off ∷ len ∷ []) in
    IfOk-and_then _ Q (variable_of v) _ (spelled_number 0 1023 (omega arith) v)
    (λ x x_is. IfOk-and_then _ Q (offset_of off) _ (spelled_offset off)
    (λ y y_is. IfOk-and_then _ Q (len_of len) _ (spelled_number 1 64 (omega arith) len)
    (λ z z_is. rw (x_is.2, y_is.1, z_is.2) ((x_is.1, y_is.0, z_is.0, z_is.1), refl))))
read_load (v ∷ off ∷ len ∷ other ∷ ws) = tt

read_store : (ws : List (List ℕ)) → IfOk (store_of ws) (IsReadFrom (codes "store" ∷ ws))
read_store [] = tt
read_store (v ∷ []) = tt
read_store (v ∷ off ∷ []) = tt
read_store (v ∷ off ∷ len ∷ []) = tt
read_store (v ∷ off ∷ len ∷ byte ∷ []) =
    let Q = IsReadFrom (codes "store" ∷ v ∷ off ∷ len ∷ byte ∷ []) in
    IfOk-and_then _ Q (variable_of v) _ (spelled_number 0 1023 (omega arith) v)
    (λ x x_is. IfOk-and_then _ Q (offset_of off) _ (spelled_offset off)
    (λ y y_is. IfOk-and_then _ Q (len_of len) _ (spelled_number 1 64 (omega arith) len)
    (grind (arith, hex_is_spelled))))
read_store (v ∷ off ∷ len ∷ byte ∷ other ∷ ws) = tt

read_move : (name : List ℕ) (event : ℕ → ℕ → ℕ → ℕ → Event)
    → ((v w u6 u4 : ℕ) → v ≤ 1023 → w ≤ 1023 → u6 ≤ 63 → u4 ≤ 15 →
    IsReadFrom (name ∷ decimal v ∷ decimal w ∷ decimal u6 ∷ decimal u4 ∷ []) (event v w u6 u4))
    → (ws : List (List ℕ)) → IfOk (move_of event ws) (IsReadFrom (name ∷ ws))
read_move name event is [] = tt
read_move name event is (v ∷ []) = tt
read_move name event is (v ∷ w ∷ []) = tt
read_move name event is (v ∷ w ∷ u6 ∷ []) = tt
read_move name event is (v ∷ w ∷ u6 ∷ u4 ∷ []) =
    let Q = IsReadFrom (name ∷ v ∷ w ∷ u6 ∷ u4 ∷ []) in
    IfOk-and_then _ Q (variable_of v) _ (spelled_number 0 1023 (omega arith) v)
    (λ x x_is. IfOk-and_then _ Q (variable_of w) _ (spelled_number 0 1023 (omega arith) w)
    (λ y y_is. IfOk-and_then _ Q (number_from 0 63 u6) _ (spelled_number 0 63 (omega arith) u6)
    (λ z z_is. IfOk-and_then _ Q (number_from 0 15 u4) _ (spelled_number 0 15 (omega arith) u4)
    (λ t t_is. rw (x_is.2, y_is.2, z_is.2, t_is.2) (is x y z t x_is.1 y_is.1 z_is.1 t_is.1)))))
read_move name event is (v ∷ w ∷ u6 ∷ u4 ∷ other ∷ ws) = tt

-- ---- a line

-- where the name is the one that is tested
if_named : (name wanted : List ℕ) (ws : List (List ℕ)) (a b : Result Event TraceFault)
    → IfOk a (IsReadFrom (wanted ∷ ws)) → IfOk b (IsReadFrom (name ∷ ws)) → IfOk (cond (bytes_eq name wanted) a b) (IsReadFrom (name ∷ ws))
if_named name wanted ws a b is other = grind (arith, bytes_eq-Decides)

read_named : (name : List ℕ) (ws : List (List ℕ)) → IfOk (event_named name ws) (IsReadFrom (name ∷ ws))
read_named name ws = grind (arith, if_named, read_request, read_free, read_load, read_store, read_move)

read_words : (ws : List (List ℕ)) → IfOk (event_of_words ws) (IsReadFrom ws)
unfolding event_of_words
read_words ws = grind (arith, read_named)

-- what is true of an event that is read from words is true of the event of a line with these words
of_line : (P : Event → Type 0) (number : ℕ) (line : List ℕ) → ((e : Event) → IsReadFrom (words line) e → P e)
    → IfOk (event_of_line number line) P
unfolding event_of_line
of_line P number line so = go (ltb 80 (length line)) (ltb 1000000 number) (event_of_words (words line)) (read_words (words line))
  where
    go : (v w : Bool) (r : Result Event TraceFault) → IfOk r (IsReadFrom (words line)) →
        IfOk (cond v (Err LineTooLong) (cond w (Err TooManyEvents) r)) P
    go true w r is = tt
    go false true r is = tt
    go false false (Ok event) is = so event is
    go false false (Err fault) is = tt

pub IfOk-event_of_line : (number : ℕ) (line : List ℕ) → IfOk (event_of_line number line) IsInRange
IfOk-event_of_line number line = of_line IsInRange number line (λ e is. is.0)

pub spelled_line : (number : ℕ) (line : List ℕ) → IfOk (event_of_line number line) (λ e. line ≡ event_line e)
spelled_line number line = of_line (λ e. line ≡ event_line e) number line (λ e is. sym (line_is_its_words line) ∙ ap line_of is.1)

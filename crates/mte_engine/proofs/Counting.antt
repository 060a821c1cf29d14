-- Events that are taken out of a list and counted, one by one.
use Rattle.std.proofs.Common.{◌≡◌, ℕ, ◌≤◌, List, [], ◌∷◌, ◌++◌, length, drop, Some, None, refl, sym, ap, ◌∙◌, arith, append_assoc}
use Rattle.std.{proofs.Common.{slice_get}, proofs.lemmas.List.Elements.{filter_map-append}}
use Rattle.replay_theory.specs.{Losses.{requested_sizes}}
use Rattle.trace_event.specs.declared.event.Event.{Event}

pub first_of : {A : Type 0} (xs : List A) (x : A) → slice_get xs 0 ≡ Some x → xs ≡ x ∷ drop 1 xs
first_of xs x e = grind arith

pub none_left : {A : Type 0} (xs : List A) → slice_get xs 0 ≡ None → xs ≡ []
none_left [] e = refl
none_left (y ∷ xs) e = cc

pub one_taken : (all taken : List Event) (old rest : List Event) (event : Event) → all ≡ taken ++ old → old ≡ event ∷ rest →
    all ≡ (taken ++ event ∷ []) ++ rest
one_taken all taken old rest event e f = e ∙ ap (λ (t : List Event). taken ++ t) f ∙ sym (append_assoc taken (event ∷ []) rest)

-- an event requests at most one size
pub length-requested_sizes : (events : List Event) → length (requested_sizes events) ≤ length events
length-requested_sizes [] = omega arith
length-requested_sizes (event ∷ events) = grind (arith, length-requested_sizes events)

pub one_requested : (sizes : List ℕ) (taken : List Event) (event : Event)
    → (sizes ++ requested_sizes taken) ++ requested_sizes (event ∷ []) ≡ sizes ++ requested_sizes (taken ++ event ∷ [])
one_requested sizes taken event = grind (arith, append_assoc, filter_map-append)

-- A step of the reading loop and of the writing loop.
use Rattle.std.proofs.Common.{◌≡◌, ℕ, ◌≤◌, List, ◌++◌, length, take, drop, Option, Some, None, sym, ap, ◌∙◌, append_assoc}
use Rattle.std.proofs.{Math.Seq.{take-append_seam}, lemmas.List.{take-append-drop, take-append-le}}
use Rattle.std.specs.Io.KnownBytes.{Appends, Consumes}

-- ---- reading

-- the first bytes of a buffer that was read into
pub piece_of : (n len : ℕ) (buffer rest piece : List ℕ) → length buffer ≡ len → piece ≡ take len (buffer ++ rest) →
    take n piece ≡ take n buffer
piece_of n len buffer rest piece full same =
    ap (take n) (same ∙ ap (λ (k : ℕ). take k (buffer ++ rest)) (sym full) ∙ take-append_seam buffer rest)

pub consumes_more : (first now next : Option (List ℕ)) (a b : List ℕ) → Consumes first now a → Consumes now next b →
    Consumes first next (a ++ b)
consumes_more None now next a b e f = tt
consumes_more (Some xs) None next a b e f = absurd e
consumes_more (Some xs) (Some ys) None a b e f = absurd f
consumes_more (Some xs) (Some ys) (Some zs) a b e f = e ∙ ap (λ (t : List ℕ). a ++ t) f ∙ sym (append_assoc a b zs)

-- the bytes that were moved in a first part and then in a second
pub moved_more : (first now next a b : List ℕ) → now ≡ first ++ a → next ≡ now ++ b → next ≡ first ++ (a ++ b)
moved_more first now next a b e f = f ∙ ap (λ (t : List ℕ). t ++ b) e ∙ append_assoc first a b

-- ---- writing

-- a piece of what was still to come was written
pub written_more : (text written rest rest' : List ℕ) (n : ℕ) → text ≡ written ++ rest → rest' ≡ drop n rest →
    text ≡ (written ++ take n rest) ++ rest'
written_more text written rest rest' n e f =
    e ∙ ap (λ (t : List ℕ). written ++ t) (sym (take-append-drop n rest)) ∙ sym (append_assoc written (take n rest) (drop n rest))
    ∙ ap (λ (t : List ℕ). (written ++ take n rest) ++ t) (sym f)

-- the first bytes of what is ready are those of all that is still to come
pub first_ready : (rest ready later : List ℕ) (n : ℕ) → rest ≡ ready ++ later → n ≤ length ready → take n ready ≡ take n rest
first_ready rest ready later n e fits = sym (ap (take n) e ∙ take-append-le n ready later fits)

pub appends_more : (first now next : Option (List ℕ)) (a b : List ℕ) → Appends first now a → Appends now next b →
    Appends first next (a ++ b)
appends_more None now next a b e f = tt
appends_more (Some xs) None next a b e f = absurd e
appends_more (Some xs) (Some ys) None a b e f = absurd f
appends_more (Some xs) (Some ys) (Some zs) a b e f = f ∙ ap (λ (t : List ℕ). t ++ b) e ∙ append_assoc xs a b

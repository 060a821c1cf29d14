-- Lists that are linked through headers.
use Rattle.std.proofs.Common.{◌≡◌, ◌≢◌, ℕ, ◌<◌, List, [], ◌∷◌, ◌++◌, length, suc, refl, sym, ap, subst, arith, drop, Contains}
use Rattle.std.proofs.Common.{AllPairs}
use Rattle.heap_theory.proofs.ListSearch.{Contains-head, Contains-tail, Contains-none, AllPairs-cons, AllPairs-nil}
use Rattle.heap_theory.specs.Links.{IsLinked, last_link}

-- links that change outside the list leave it linked
pub IsLinked-same : (next new : ℕ → ℕ) (front : ℕ) (list : List ℕ) → ((s : ℕ) → Contains list s → new s ≡ next s) →
    IsLinked next front list → IsLinked new front list
IsLinked-same next new front [] same l = l
IsLinked-same next new front (s ∷ rest) same l = (
  l.0,
  subst (λ n. IsLinked new n rest) (sym (same s (Contains-head s rest)))
      (IsLinked-same next new (next s) rest (λ r there. same r (Contains-tail s rest r there)) l.1),
)

-- from one front there is one list
pub IsLinked-one : (next : ℕ → ℕ) (front : ℕ) (a b : List ℕ) → IsLinked next front a → IsLinked next front b → a ≡ b
IsLinked-one next front [] [] l k = refl
IsLinked-one next front [] (s ∷ rest) l k = absurd (omega (arith, k.0))
IsLinked-one next front (s ∷ rest) [] l k = absurd (omega (arith, l.0))
IsLinked-one next front (s ∷ rest) (r ∷ more) l k = grind (arith, IsLinked-one next (next s) rest more l.1)

-- with no front there is no slot,
pub IsLinked-none : (next : ℕ → ℕ) (front : ℕ) (list : List ℕ) → IsLinked next front list → front ≡ 0 → list ≡ []
IsLinked-none next front [] l is = refl
IsLinked-none next front (s ∷ rest) l is = absurd (omega (arith, is, l.0))

-- and any other front is the link to the first slot, whose link shows the rest
pub IsLinked-first : (next : ℕ → ℕ) (front s : ℕ) (list : List ℕ) → IsLinked next front list → front ≡ suc s →
    (list ≡ s ∷ drop 1 list) × IsLinked next (next s) (drop 1 list)
IsLinked-first next front s list l is = grind arith

-- the list from each of its slots on
from_there : (next : ℕ → ℕ) (front : ℕ) (list : List ℕ) (s : ℕ) → IsLinked next front list → Contains list s →
    (rest : List ℕ) × (length rest < length list) × IsLinked next (next s) rest
from_there next front [] s l there = absurd (Contains-none s there)
from_there next front (r ∷ rest) s l there = grind (arith, from_there next (next r) rest s l.1)

-- each slot is met once, since links do not go round
pub IsLinked-once : (next : ℕ → ℕ) (front : ℕ) (list : List ℕ) → IsLinked next front list → AllPairs (λ s r. s ≢ r) list
IsLinked-once next front [] l = AllPairs-nil (λ s r. s ≢ r)
IsLinked-once next front (s ∷ rest) l =
    AllPairs-cons (λ s r. s ≢ r) s rest
    (λ r there same.
    let again = from_there next (next s) rest s l.1 (subst (Contains rest) (sym same) there) in
    grind (arith, IsLinked-one))
    (IsLinked-once next (next s) rest l.1)

-- the last slot has no link
pub IsLinked-ends : (next : ℕ → ℕ) (front s : ℕ) (list : List ℕ) → IsLinked next front list → last_link list ≡ suc s → Contains list s
    × (next s ≡ 0)
IsLinked-ends next front s [] l is = absurd (omega (arith, is))
IsLinked-ends next front s (r ∷ []) l is = grind (arith, Contains-head)
IsLinked-ends next front s (r ∷ q ∷ rest) l is =
    let more = IsLinked-ends next (next r) s (q ∷ rest) l.1 is in (Contains-tail r (q ∷ rest) s more.0, more.1)

-- a slot is put after a list, where the list's last slot is linked to it
pub IsLinked-append : (next new : ℕ → ℕ) (front last s : ℕ) (list : List ℕ) → IsLinked next front list → last_link list ≡ suc last →
    ((r : ℕ) → Contains list r → r ≢ last → new r ≡ next r) → new last ≡ suc s → new s ≡ 0 → IsLinked new front (list ++ s ∷ [])
IsLinked-append next new front last s [] l is others linked ends = absurd (omega (arith, is))
IsLinked-append next new front last s (r ∷ []) l is others linked ends = grind arith
IsLinked-append next new front last s (r ∷ q ∷ rest) l is others linked ends =
    let more =
    IsLinked-append next new (next r) last s (q ∷ rest) l.1 is (λ p there. others p (Contains-tail r (q ∷ rest) p there)) linked ends in
    let another : r ≢ last = λ same. let end = IsLinked-ends next front last (r ∷ q ∷ rest) l is in
    omega (arith, ap next same, end.1, l.1.0) in
    (l.0, subst (λ n. IsLinked new n ((q ∷ rest) ++ s ∷ [])) (sym (others r (Contains-head r (q ∷ rest)) another)) more)

pub last_link-append : (list : List ℕ) (s : ℕ) → last_link (list ++ s ∷ []) ≡ suc s
last_link-append [] s = refl
last_link-append (r ∷ []) s = refl
last_link-append (r ∷ q ∷ rest) s = last_link-append (q ∷ rest) s
